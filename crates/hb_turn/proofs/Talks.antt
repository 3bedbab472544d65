-- Talks of a turn: what is told of a talk, and of one that goes on behind another.
use Rattle.std.proofs.Common.{◌≡◌, ℕ, false, List, [], ◌∷◌, Option, Some, None, Ok, Err, Result, refl, ap, sym, ◌∙◌}
use Rattle.std.specs.Prelude.{◌&&◌, if◌then◌else◌, map}
use Rattle.hb_types.specs.declared.names.Owner.{Owner}
use Rattle.hb_types.specs.declared.request.Request.TheVariants as request
use Rattle.hb_model.specs.declared.reply.Reply.{Reply}
use Rattle.hb_model.specs.declared.reply.Reply.TheVariants as reply
use Rattle.hb_model.specs.NodeSets.{nodes_in, has_node, with_node}
use Rattle.hb_model.specs.Shapes.{Hint as Moving}
use Rattle.hb_talk.specs.Ends.{rollbacks, rolling_back, committing, is_unreached}
use Rattle.hb_talk.specs.Moves.{Finish, Turned, again, onward, over, other, row_there, set, after_commit, batch_ends, check_ends, check_reply, finish_ends, rolled}
use Rattle.hb_talk.specs.Talk.{Talk, says, asks, going_on, Use}
use Rattle.hb_batch.specs.Batches.{hint_of}
use Rattle.hb_batch.specs.declared.hint.Hint.{Hint}
use Rattle.hb_moveplan.specs.MovePlans.{Came, coming, hints, moved, finished, told as told_as}
use Rattle.hb_round.specs.Onward.{Ends}
use Rattle.hb_turn.specs.declared.stage.After.TheVariants as after
use Rattle.std.proofs.lemmas.Bool.{false≢true}
use Rattle.hb_turn.specs.Steps.{is_counted}
use Rattle.hb_turn.specs.Turning.{Outcome, ends, ending, following, of_check, of_turned, planned, shown_of, told}

pub behind : {A B C : Type 0} (f : B → Talk C) (g : A → Talk B) (t : Talk A) → going_on f (going_on g t) ≡ going_on (λ a. going_on f (g a)) t
behind f g (says a) = refl
behind f g (asks node q k) = λ i. asks node q (λ a. behind f g (k a) i)

pub same_on : {A B : Type 0} (f g : A → Talk B) → ((a : A) → f a ≡ g a) → (t : Talk A) → going_on f t ≡ going_on g t
same_on f g same t = λ i. going_on (λ a. same a i) t

-- ---- a rolling back says its reply

back_says : {R : Type 0} (u : Use) (prepared : ℕ) (ns : List ℕ) (left : ℕ) (r r' : Reply) (f : Reply → Talk R)
    → going_on f (rollbacks u prepared ns left r) ≡ going_on (λ _. f r) (rollbacks u prepared ns left r')
back_says u prepared [] left r r' f = refl
back_says u prepared (n ∷ ns) left r r' f =
    λ i. asks n (request.Rollback (record { 0 = u.tx })) (λ a. back_says u prepared ns (if is_unreached a && has_node prepared n then with_node left n else left) r r' f i)

pub rolling_says : {R : Type 0} (u : Use) (prepared : ℕ) (r r' : Reply) (f : Reply → Talk R)
    → going_on f (rolling_back u prepared r) ≡ going_on (λ _. f r) (rolling_back u prepared r')
rolling_says u prepared r r' f = λ i. asks 0 (request.Abort (record { 0 = u.tx })) (λ a. back_says u prepared (nodes_in u.used) 0 r r' f i)

-- a rolling back behind which one thing is said
pub ends_with_it : {A : Type 0} (f : A → Outcome) (y : A) (u : Use) (r e : Reply) → f y ≡ ends e
    → told f (going_on (λ x. says y) (rolling_back u 0 r)) ≡ following (after.Over e) (rolling_back u 0 reply.RolledBack)
ends_with_it f y u r e is =
    behind (λ a. says (f a)) (λ x. says y) (rolling_back u 0 r) ∙ ap (λ z. going_on (λ x. says z) (rolling_back u 0 r)) is
    ∙ rolling_says u 0 r reply.RolledBack (λ x. says (ends e))

-- a rolling back whose reply is said
pub ends_by_it : {A : Type 0} (f : A → Outcome) (k : Reply → A) (u : Use) (e : Reply) → f (k e) ≡ ends e
    → told f (going_on (λ x. says (k x)) (rolling_back u 0 e)) ≡ following (after.Over e) (rolling_back u 0 reply.RolledBack)
ends_by_it f k u e is =
    behind (λ a. says (f a)) (λ x. says (k x)) (rolling_back u 0 e) ∙ rolling_says u 0 e reply.RolledBack (λ x. says (f (k x)))
    ∙ ap (λ z. going_on (λ x. says z) (rolling_back u 0 reply.RolledBack)) is

-- ---- a plan and its end

pub refused_end : (o : Owner) (group : ℕ) (u : Use) (r : Reply) → ending o group (Err r) u ≡ following (after.Over r) (rolling_back u 0 reply.RolledBack)
refused_end o group u r = ends_with_it of_turned (over r) u reply.RolledBack r refl

check_end : (o : Owner) (group : ℕ) (e : Result (List Moving) Reply) (u : Use) → told of_check (check_ends o e u) ≡ ending o group (told_as hints e) u
check_end o group (Ok hs) u = refl
check_end o group (Err r) u = ends_with_it of_check (Err r) u r r refl ∙ sym (refused_end o group u r)

batch_end : (o : Owner) (h : Moving) (e : Result (Option ℕ) Reply) (u : Use) → told of_turned (batch_ends o h e u) ≡ ending o h.group (told_as moved e) u
batch_end o h (Ok (Some n)) u = refl
batch_end o h (Ok None) u = refl
batch_end o h (Err r) u = refl

finish_end : (o : Owner) (h : Moving) (e : Result Finish Reply) (u : Use) → told of_turned (finish_ends o h e u) ≡ ending o h.group (told_as finished e) u
finish_end o h (Ok set) u = refl
finish_end o h (Ok row_there) u = refl
finish_end o h (Ok other) u = refl
finish_end o h (Err r) u = refl

plan_of : {A B : Type 0} (o : Owner) (group : ℕ) (f : B → Outcome) (g : A → Came) (E : Result A Reply → Use → Talk B)
    → ((e : Result A Reply) (u : Use) → told f (E e u) ≡ ending o group (told_as g e) u)
    → (p : Talk (Ends A)) → told f (going_on (λ e. E e.0 e.1) p) ≡ planned o group (coming g p)
plan_of o group f g E is p =
    behind (λ b. says (f b)) (λ e. E e.0 e.1) p ∙ same_on (λ e. told f (E e.0 e.1)) (λ e. ending o group (told_as g e.0) e.1) (λ e. is e.0 e.1) p
    ∙ sym (behind (λ e. ending o group e.0 e.1) (λ e. says (told_as g e.0, e.1)) p)

pub check_planned : (o : Owner) (group : ℕ) (p : Talk (Ends (List Moving))) → told of_check (going_on (λ e. check_ends o e.0 e.1) p) ≡ planned o group (coming hints p)
check_planned o group p = plan_of o group of_check hints (check_ends o) (check_end o group) p

pub batch_planned : (o : Owner) (h : Moving) (p : Talk (Ends (Option ℕ))) → told of_turned (going_on (λ e. batch_ends o h e.0 e.1) p) ≡ planned o h.group (coming moved p)
batch_planned o h p = plan_of o h.group of_turned moved (batch_ends o h) (batch_end o h) p

pub finish_planned : (o : Owner) (h : Moving) (p : Talk (Ends Finish)) → told of_turned (going_on (λ e. finish_ends o h e.0 e.1) p) ≡ planned o h.group (coming finished p)
finish_planned o h p = plan_of o h.group of_turned finished (finish_ends o h) (finish_end o h) p

-- ---- what follows the end of a plan

pub checked_end : (o : Owner) (group : ℕ) (hs : List Hint) (u : Use)
    → following (after.Checked hs) (committing o u (shown_of (after.Checked hs))) ≡ ending o group (Ok (hints (map hint_of hs))) u
checked_end o group hs u = sym (behind (λ c. says (of_check c)) (λ r. says (check_reply (map hint_of hs) r)) (committing o u reply.Complete))

pub moved_end : (o : Owner) (group n : ℕ) (u : Use) → following (after.Moved n group) (committing o u (shown_of (after.Moved n group))) ≡ ending o group (Ok (moved (Some n))) u
moved_end o group n u = sym (behind (λ t. says (of_turned t)) (λ r. says (after_commit again r)) (committing o u (λ number. reply.Moved n group number)))

pub set_end : (o : Owner) (group : ℕ) (u : Use) → following (after.Set group) (committing o u (shown_of (after.Set group))) ≡ ending o group (Ok (finished set)) u
set_end o group u = sym (behind (λ t. says (of_turned t)) (λ r. says (after_commit (λ rs. onward) r)) (committing o u (λ number. reply.Moved 0 group number)))

pub onward_end : (u : Use) → told of_turned (rolled u onward) ≡ following after.Onward (rolling_back u 0 reply.RolledBack)
onward_end u = behind (λ t. says (of_turned t)) (λ r. says onward) (rolling_back u 0 reply.RolledBack)

pub again_end : (u : Use) → told of_turned (rolled u (again [])) ≡ following after.Again (rolling_back u 0 reply.RolledBack)
again_end u = behind (λ t. says (of_turned t)) (λ r. says (again [])) (rolling_back u 0 reply.RolledBack)

-- ---- replies that show no number

pub uncounted_check : (hs : List Moving) (r : Reply) → is_counted r ≡ false → of_check (check_reply hs r) ≡ ends r
uncounted_check hs (reply.Complete number) e = absurd (false≢true (sym e))
uncounted_check hs r e = refl

pub uncounted_commit : (next : List Reply → Turned) (r : Reply) → is_counted r ≡ false → of_turned (after_commit next r) ≡ ends r
uncounted_commit next (reply.Moved rows group number) e = absurd (false≢true (sym e))
uncounted_commit next r e = refl
