-- The writes of a statement, one after another, as a part of a plan: what is still to be said, and what follows an answer.
use Rattle.std.specs.Prelude.{◌≡◌, ◌+◌, nat_lt, Bool, true, false, List, Option, Some, None, Result, Ok, Err}
use Rattle.hb_types.specs.declared.answer.Answer.{Answer}
use Rattle.hb_types.specs.declared.change.Change.{Change}
use Rattle.hb_model.specs.Does.{most_bytes}
use Rattle.hb_model.specs.declared.reply.Reply.{Reply}
use Rattle.hb_talk.specs.Sessions.{rolls_back}
use Rattle.hb_talk.specs.Talk.{Talk, says, asks, going_on, Use, Planning, and_then, ◌>>◌, pure}
use Rattle.hb_talk.specs.Plans.{sizes, writing, writes}
use Rattle.hb_access.specs.declared.access.Next.{Next}
use Rattle.hb_access.specs.declared.access.Next.TheVariants as next
use Rattle.hb_access.specs.declared.usage.Usage.{Usage}
use Rattle.hb_access.specs.Accesses.{Ended, use_of}
use Rattle.hb_access.specs.Accesses as access
use Rattle.hb_writes.specs.Underway.{Underway}
use Rattle.hb_writes.specs.declared.writing.Begun.{Begun}
use Rattle.hb_writes.specs.declared.writing.Begun.TheVariants as begun
use Rattle.hb_writes.specs.declared.writing.Taken.{Taken}
use Rattle.hb_writes.specs.declared.writing.Taken.TheVariants as taken

abbrev pub Replied : Type 0
Replied = Result Reply Reply × Use

-- what is said in the end, with this behind it
abbrev pub behind : Planning Reply → Talk Ended → Talk Replied
behind rest = going_on (λ r. and_then (λ _. rest) r.1 r.0)

-- writes, and a reply
abbrev pub replying : List Change → Reply → Planning Reply
replying left reply = writing left >> pure reply

-- whether an answer is awaited
abbrev pub is_waiting : Underway → Bool
is_waiting w = access.is_waiting w.access.stage

-- whether something is asked next
abbrev pub is_asking : Underway → Bool
is_asking w = access.is_asking w.access.stage

-- what is still to be said, where no answer is awaited
abbrev pub now_talks : Underway → Talk Replied
now_talks w = behind (replying w.left w.reply) (access.now_talks w.access)

-- what follows the answer that is awaited
abbrev pub now_hears : Underway → Answer → Talk Replied
now_hears w a = behind (replying w.left w.reply) (access.now_hears w.access a)

-- what the planning knows of the transaction
abbrev pub using : Underway → Use
using w = use_of w.access.usage

-- ---- steps

-- the same transaction uses the same nodes
abbrev pub IsSameUse : Usage → Usage → Type 0
IsSameUse old new = (new.tx ≡ old.tx) × (new.used ≡ old.used)

-- changes that are counted: there is room for them, or they are too much
abbrev pub Counts : Usage → List Change → Option Usage → Type 0
Counts old changes (Some new) =
    (nat_lt most_bytes (old.bytes + sizes changes) ≡ false) × (use_of new ≡ record (use_of old) { bytes = old.bytes + sizes changes }) × IsSameUse old new
Counts old changes None = nat_lt most_bytes (old.bytes + sizes changes) ≡ true

-- how a talk begins: it waits to be asked, or is at its end
abbrev pub StartsAt : Talk Replied → Usage → Begun → Type 0
StartsAt talk u (begun.Writing w) = (is_asking w ≡ true) × (talk ≡ now_talks w) × IsSameUse u w.access.usage
StartsAt talk u (begun.Replied r v) = (talk ≡ says (Ok r, use_of v)) × IsSameUse u v
StartsAt talk u (begun.Refused r v) = (talk ≡ says (Err r, use_of v)) × IsSameUse u v

-- what is said of writes that are counted
abbrev pub Starts : Usage → List Change → Reply → Begun → Type 0
Starts u changes reply b = StartsAt (replying changes reply (use_of u)) u b

-- what is said of the writes of a statement
abbrev pub Begins : Usage → List Change → Reply → Begun → Type 0
Begins u changes reply b = StartsAt ((writes changes >> pure reply) (use_of u)) u b

-- what is asked next is what is to be said, and its answer is awaited, or it is refused
abbrev pub NextIs : Underway → Underway → Next → Type 0
NextIs old new (next.Ask node q) = (is_waiting new ≡ true) × (now_talks old ≡ asks node.0 q (now_hears new))
NextIs old new (next.Refused r) = now_talks old ≡ says (Err r, using new)

-- what is to be said is where an answer left it
abbrev pub Goes : Talk Replied → Underway → Taken → Type 0
Goes talk new taken.More = (is_asking new ≡ true) × (talk ≡ now_talks new)
Goes talk new (taken.Replied r) = talk ≡ says (Ok r, using new)
Goes talk new (taken.Refused r) = talk ≡ says (Err r, using new)

abbrev pub Hears : Underway → Underway → Answer → Taken → Type 0
Hears old new a t = Goes (now_hears old a) new t

-- whether an answer was one that rolls the transaction back
abbrev pub rolls : Taken → Bool
rolls taken.More = false
rolls (taken.Replied r) = false
rolls (taken.Refused r) = rolls_back r
