-- The steps of a batch keep what is to be said.
use Rattle.std.proofs.Common.{◌≡◌, ℕ, ◌+◌, ℤ, Bool, true, false, List, [], ◌∷◌, Option, Some, None, Ok, Err, refl, ap, sym, ◌∙◌, subst, arith}
use Rattle.std.specs.Prelude.{nat_lt, All, FitsSigned}
use Rattle.std.specs.Int.{w32, w64}
use Rattle.std.proofs.lemmas.Int.{to_z-of_z, ints}
use Rattle.std.proofs.lemmas.List.Elements.{All-head, All-tail}
use mir.Val.{to_z, of_z}
use Rattle.hb_types.specs.declared.answer.Answer.{Answer}
use Rattle.hb_types.specs.declared.change.Change.{Change}
use Rattle.hb_types.specs.Calls.{IsAnswer}
use Rattle.hb_types.specs.declared.places.Place.{Place}
use Rattle.hb_types.specs.Places.{node_of_area}
use Rattle.hb_model.specs.Does.{most_bytes}
use Rattle.hb_model.specs.declared.reply.Reply.{Reply}
use Rattle.hb_model.specs.declared.reply.Reply.TheVariants as reply
use Rattle.hb_model.specs.Shapes.{Hint as Moving}
use Rattle.hb_model.specs.Spots.{place_in}
use Rattle.hb_talk.specs.Moves.{is_hinted}
use Rattle.hb_talk.specs.Talk.{Talk, says, Use}
use Rattle.hb_talk.specs.Plans.{sizes}
use Rattle.hb_access.specs.declared.access.Next.{Next}
use Rattle.hb_access.specs.declared.access.Taken.TheVariants as accessed
use Rattle.hb_access.specs.declared.goal.Goal.{Goal}
use Rattle.hb_access.specs.declared.goal.Got.{Got}
use Rattle.hb_access.specs.declared.goal.Got.TheVariants as got
use Rattle.hb_access.specs.declared.usage.Usage.{Usage}
use Rattle.hb_access.specs.Accesses.{Accessing, use_of, locked, under, written, keeps_nodes}
use Rattle.hb_access.specs.Accesses as access
use Rattle.hb_access.proofs.Nodes.{goes_on}
use Rattle.hb_writes.specs.Writings.{Counts, IsSameUse}
use Rattle.hb_round.specs.Onward.{Ends, onward}
use Rattle.hb_round.proofs.Onwards.{asks_on, access_asks, says_on, refused_on}
use Rattle.hb_batch.specs.declared.batch.Part.{Part}
use Rattle.hb_batch.specs.declared.batch.Part.TheVariants as part
use Rattle.hb_batch.specs.declared.batch.Taken.{Taken}
use Rattle.hb_batch.specs.declared.batch.Taken.TheVariants as taken
use Rattle.hb_batch.specs.Batches.{Batching, NextIs, Hears, Goes, GoesWith, IsTold, ToldAt, TellsAt, TellsAnswer, IsGot, Stays, addition, behind, from_new, from_old, from_out, from_row, entry_got, hint_of, if_hinted, key_goal, left_of, now_hears, now_talks, now_uses, removal, rolls, row_got, then_on, with_row}
use Rattle.hb_batch.proofs.Plans.{a_row, locks_key, next_left, none_left, reads_key, too_much, writes_change}

-- ---- what is asked

pub next_on : (old b : Batching) (new : Accessing) (n : Next) → b ≡ old → access.NextIs b.access new n → NextIs old (record b { access = new }) n
next_on old b new n is h =
    subst (λ o. NextIs o (record b { access = new }) n) is
    (asks_on (then_on b) (access.now_talks b.access) (access.now_hears new) (access.is_waiting new.stage) (use_of new.usage) n (access_asks b.access new n h))

-- ---- answers

pub more_heard : (old b : Batching) (new : Accessing) (a : Answer) → b ≡ old → access.Hears b.access new a accessed.More → Hears old (record b { access = new }) a taken.More
more_heard old b new a is h = (h.0, subst (λ o. now_hears o a ≡ now_talks (record b { access = new })) is (ap (onward (then_on b)) h.1))

pub refused_heard : (old b : Batching) (new : Accessing) (a : Answer) (e : Reply) → b ≡ old → access.Hears b.access new a (accessed.Refused e)
    → Hears old (record b { access = new }) a (taken.Refused e)
refused_heard old b new a e is h = λ _.
    subst (λ o. now_hears o a ≡ says (Err e, use_of new.usage)) is (ap (onward (then_on b)) h ∙ refused_on (then_on b) e (use_of new.usage))

told_at : (p : Part) (a : Answer) (g : Got) → access.Brings a (accessed.Came g) → ToldAt p a → TellsAt p g
told_at part.Entry a (got.Row row) is told = subst TellsAnswer is told
told_at part.Entry a (got.Rows rows) is told = tt
told_at part.Entry a got.Nothing is told = tt
told_at part.Old a g is told = tt
told_at part.New a g is told = tt
told_at part.Row a g is told = tt
told_at part.Put a g is told = tt
told_at part.Out a g is told = tt

pub came_heard : (old b new : Batching) (next : Accessing) (a : Answer) (g : Got) (t : Taken) → b ≡ old → access.Hears b.access next a (accessed.Came g)
    → access.Brings a (accessed.Came g) → (TellsAt b.part g → GoesWith (then_on b g (use_of next.usage)) new t) → IsTold old a → Hears old new a t
came_heard old b new next a g t is h brings goes told =
    subst (λ o. GoesWith (now_hears o a) new t) is
    (subst (λ talk. GoesWith talk new t) (sym (ap (onward (then_on b)) h ∙ says_on (then_on b) g (use_of next.usage)))
    (goes (told_at b.part a g brings (subst (λ o. IsTold o a) (sym is) told))))

pub got_is : (a : Answer) (g : Got) → access.Brings a (accessed.Came g) → IsAnswer a → IsGot g
got_is a (got.Row row) is are = subst IsAnswer is are
got_is a (got.Rows rows) is are = tt
got_is a got.Nothing is are = tt

pub came_keeps : (old b new : Batching) (next : Accessing) (t : Taken) → b ≡ old → keeps_nodes b.access.usage.used.0 next.usage.used.0 false ≡ true
    → Stays (record b { access = next }) new t → keeps_nodes old.access.usage.used.0 new.access.usage.used.0 (rolls t) ≡ true
came_keeps old b new next t is kept stays =
    subst (λ (o : Batching). keeps_nodes o.access.usage.used.0 new.access.usage.used.0 (rolls t) ≡ true) is
    (goes_on b.access.usage.used.0 next.usage.used.0 new.access.usage.used.0 (rolls t) kept stays.usage_nodes)

-- ---- from a place to the next access

pub old_locked : (b : Batching) (a : Accessing) (u : Usage) → u ≡ b.access.usage → access.now_talks a ≡ locked (key_goal (hint_of b.hint) b.hint.old b.key false) (use_of u)
    → from_old (hint_of b.hint) b.key b.keys b.moved (now_uses b) ≡ now_talks (record b { access = a; part = part.Old })
unfolding from_old behind
old_locked b a u same is =
    let h = hint_of b.hint in
    locks_key h b.hint.old b.key (from_new h b.key b.keys b.moved) (now_uses b)
    ∙ ap (λ v. onward (λ _. from_new h b.key b.keys b.moved) (locked (key_goal h b.hint.old b.key false) (use_of v))) (sym same)
    ∙ ap (onward (λ _. from_new h b.key b.keys b.moved)) (sym is)

pub new_locked : (b : Batching) (a : Accessing) (u : Usage) → u ≡ b.access.usage → access.now_talks a ≡ locked (key_goal (hint_of b.hint) b.hint.new b.key false) (use_of u)
    → from_new (hint_of b.hint) b.key b.keys b.moved (now_uses b) ≡ now_talks (record b { access = a; part = part.New })
unfolding from_new behind
new_locked b a u same is =
    let h = hint_of b.hint in
    locks_key h b.hint.new b.key (from_row h b.key b.keys b.moved) (now_uses b)
    ∙ ap (λ v. onward (λ _. from_row h b.key b.keys b.moved) (locked (key_goal h b.hint.new b.key false) (use_of v))) (sym same)
    ∙ ap (onward (λ _. from_row h b.key b.keys b.moved)) (sym is)

pub row_read : (b : Batching) (a : Accessing) (u : Usage) → u ≡ b.access.usage
    → access.now_talks a ≡ under (node_of_area b.hint.old) (key_goal (hint_of b.hint) b.hint.old b.key true).path (use_of u)
    → from_row (hint_of b.hint) b.key b.keys b.moved (now_uses b) ≡ now_talks (record b { access = a; part = part.Row })
unfolding from_row behind
row_read b a u same is =
    let h = hint_of b.hint in
    let g = key_goal h b.hint.old b.key true in
    reads_key (node_of_area b.hint.old) (place_in b.hint.old b.hint.table b.key) (with_row h b.key b.keys b.moved) (now_uses b)
    ∙ ap (λ v. onward (λ x. with_row h b.key b.keys b.moved (row_got x)) (under (node_of_area b.hint.old) g.path (use_of v))) (sym same)
    ∙ ap (onward (λ x. with_row h b.key b.keys b.moved (row_got x))) (sym is)

-- ---- writes

-- a use with a change counted, as the machine counts it
pub row_put : (b : Batching) (a : Accessing) (v : Usage) (row : List ℕ) → nat_lt most_bytes ((now_uses b).bytes + sizes (addition (hint_of b.hint) b.key row ∷ [])) ≡ false
    → use_of v ≡ record (now_uses b) { bytes = (now_uses b).bytes + sizes (addition (hint_of b.hint) b.key row ∷ []) }
    → access.now_talks a ≡ written (node_of_area b.hint.new) (addition (hint_of b.hint) b.key row) (use_of v)
    → with_row (hint_of b.hint) b.key b.keys b.moved (Some row) (now_uses b) ≡ now_talks (record b { access = a; part = part.Put })
unfolding behind
row_put b a v row room counts is =
    let h = hint_of b.hint in
    let c = addition h b.key row in
    a_row h b.key b.keys b.moved row (now_uses b)
    ∙ writes_change c (from_out h b.key b.keys b.moved) (now_uses b) room
    ∙ ap (λ w. onward (λ _. from_out h b.key b.keys b.moved) (written (node_of_area b.hint.new) c w)) (sym counts)
    ∙ ap (onward (λ _. from_out h b.key b.keys b.moved)) (sym is)

pub row_out : (b : Batching) (a : Accessing) (v : Usage) → nat_lt most_bytes ((now_uses b).bytes + sizes (removal (hint_of b.hint) b.key ∷ [])) ≡ false
    → use_of v ≡ record (now_uses b) { bytes = (now_uses b).bytes + sizes (removal (hint_of b.hint) b.key ∷ []) }
    → access.now_talks a ≡ written (node_of_area b.hint.old) (removal (hint_of b.hint) b.key) (use_of v)
    → from_out (hint_of b.hint) b.key b.keys b.moved (now_uses b) ≡ now_talks (record b { access = a; part = part.Out })
unfolding from_out behind
row_out b a v room counts is =
    let h = hint_of b.hint in
    let c = removal h b.key in
    writes_change c (left_of h b.keys (b.moved + 1)) (now_uses b) room
    ∙ ap (λ w. onward (λ _. left_of h b.keys (b.moved + 1)) (written (node_of_area b.hint.old) c w)) (sym counts)
    ∙ ap (onward (λ _. left_of h b.keys (b.moved + 1))) (sym is)

pub much_put : (b : Batching) (row : List ℕ) → nat_lt most_bytes ((now_uses b).bytes + sizes (addition (hint_of b.hint) b.key row ∷ [])) ≡ true
    → with_row (hint_of b.hint) b.key b.keys b.moved (Some row) (now_uses b) ≡ says (Err reply.TooMuch, now_uses b)
much_put b row much =
    let h = hint_of b.hint in
    a_row h b.key b.keys b.moved row (now_uses b) ∙ too_much (addition h b.key row) (from_out h b.key b.keys b.moved) (now_uses b) much

pub much_out : (b : Batching) → nat_lt most_bytes ((now_uses b).bytes + sizes (removal (hint_of b.hint) b.key ∷ [])) ≡ true
    → from_out (hint_of b.hint) b.key b.keys b.moved (now_uses b) ≡ says (Err reply.TooMuch, now_uses b)
unfolding from_out
much_out b much =
    let h = hint_of b.hint in
    too_much (removal h b.key) (left_of h b.keys (b.moved + 1)) (now_uses b) much

-- ---- the next key

pub key_next : (b : Batching) (key : ℤ) (rest : List ℤ) → b.keys ≡ key ∷ rest
    → left_of (hint_of b.hint) b.keys b.moved (now_uses b) ≡ from_old (hint_of b.hint) key rest b.moved (now_uses b)
key_next b key rest is =
    ap (λ ks. left_of (hint_of b.hint) ks b.moved (now_uses b)) is ∙ next_left (hint_of b.hint) key rest b.moved (now_uses b)

pub key_none : (b : Batching) → b.keys ≡ [] → left_of (hint_of b.hint) b.keys b.moved (now_uses b) ≡ says (Ok (Some b.moved), now_uses b)
key_none b is = ap (λ ks. left_of (hint_of b.hint) ks b.moved (now_uses b)) is ∙ none_left (hint_of b.hint) b.moved (now_uses b)

-- ---- steps that ask more

abbrev as_from : (Moving → ℤ → List ℤ → ℕ → Use → Talk (Ends (Option ℕ))) → Batching → Talk (Ends (Option ℕ))
as_from rest b = rest (hint_of b.hint) b.key b.keys b.moved (now_uses b)

goes_more : (b new : Batching) (talk : Talk (Ends (Option ℕ))) (u : Usage) → u ≡ b.access.usage → new.access.usage ≡ u → access.is_asking new.access.stage ≡ true
    → talk ≡ now_talks new → Goes talk b new taken.More
goes_more b new talk u its usage asking is = record {
  goes = (asking, is);
  stays = record {
    asking = asking;
    usage_tx = ap (λ v. v.tx.0) (usage ∙ its);
    usage_nodes = ap (λ v. v.used.0) (usage ∙ its);
  };
}

pub locks_old : (old b : Batching) (a : Accessing) (u : Usage) (g : Goal) → b ≡ old → u ≡ b.access.usage → a.usage ≡ u → access.is_asking a.stage ≡ true
    → access.now_talks a ≡ locked g (use_of u) → g ≡ key_goal (hint_of b.hint) b.hint.old b.key false
    → Goes (as_from from_old old) old (record b { access = a; part = part.Old }) taken.More
locks_old old b a u g is its usage asking talk goal =
    subst (λ o. Goes (as_from from_old o) o (record b { access = a; part = part.Old }) taken.More) is
    (goes_more b (record b { access = a; part = part.Old }) (as_from from_old b) u its usage asking (old_locked b a u its (talk ∙ ap (λ h. locked h (use_of u)) goal)))

pub locks_new : (old b : Batching) (a : Accessing) (u : Usage) (g : Goal) → b ≡ old → u ≡ b.access.usage → a.usage ≡ u → access.is_asking a.stage ≡ true
    → access.now_talks a ≡ locked g (use_of u) → g ≡ key_goal (hint_of b.hint) b.hint.new b.key false
    → Goes (as_from from_new old) old (record b { access = a; part = part.New }) taken.More
locks_new old b a u g is its usage asking talk goal =
    subst (λ o. Goes (as_from from_new o) o (record b { access = a; part = part.New }) taken.More) is
    (goes_more b (record b { access = a; part = part.New }) (as_from from_new b) u its usage asking (new_locked b a u its (talk ∙ ap (λ h. locked h (use_of u)) goal)))

pub reads_old : (old b : Batching) (a : Accessing) (u : Usage) (g : Goal) → b ≡ old → u ≡ b.access.usage → a.usage ≡ u → access.is_asking a.stage ≡ true
    → access.now_talks a ≡ under g.node.0 g.path (use_of u) → g ≡ key_goal (hint_of b.hint) b.hint.old b.key true
    → Goes (as_from from_row old) old (record b { access = a; part = part.Row }) taken.More
reads_old old b a u g is its usage asking talk goal =
    subst (λ o. Goes (as_from from_row o) o (record b { access = a; part = part.Row }) taken.More) is
    (goes_more b (record b { access = a; part = part.Row }) (as_from from_row b) u its usage asking (row_read b a u its (talk ∙ ap (λ h. under h.node.0 h.path (use_of u)) goal)))

-- ---- steps that write

abbrev with_row_of : List ℕ → Batching → Talk (Ends (Option ℕ))
with_row_of row b = with_row (hint_of b.hint) b.key b.keys b.moved (Some row) (now_uses b)

goes_written : (b new : Batching) (talk : Talk (Ends (Option ℕ))) (u v : Usage) → u ≡ b.access.usage → IsSameUse u v → new.access.usage ≡ v
    → access.is_asking new.access.stage ≡ true → talk ≡ now_talks new → Goes talk b new taken.More
goes_written b new talk u v its same usage asking is = record {
  goes = (asking, is);
  stays = record {
    asking = asking;
    usage_tx = ap (λ w. w.tx.0) usage ∙ ap (λ t. t.0) same.0 ∙ ap (λ w. w.tx.0) its;
    usage_nodes = ap (λ w. w.used.0) usage ∙ ap (λ t. t.0) same.1 ∙ ap (λ w. w.used.0) its;
  };
}

goes_refused : (b : Batching) (talk : Talk (Ends (Option ℕ))) (e : Reply) → talk ≡ says (Err e, now_uses b) → Goes talk b b (taken.Refused e)
goes_refused b talk e is = record { goes = λ _. is; stays = record { asking = tt; usage_tx = refl; usage_nodes = refl } }

-- a change is what a place and a row make it
pub puts_row : (old b : Batching) (a : Accessing) (u v : Usage) (c : Change) (row : List ℕ) (n : ℕ) → b ≡ old → u ≡ b.access.usage
    → c ≡ addition (hint_of b.hint) b.key row → Counts u (c ∷ []) (Some v) → a.usage ≡ v → access.is_asking a.stage ≡ true
    → n ≡ node_of_area b.hint.new → access.now_talks a ≡ written n c (use_of v)
    → Goes (with_row_of row old) old (record b { access = a; part = part.Put }) taken.More
puts_row old b a u v c row n is its change counts usage asking node talk =
    let new : Batching = record b { access = a; part = part.Put } in
    let to : Counts b.access.usage (addition (hint_of b.hint) b.key row ∷ []) (Some v) =
    subst (λ d. Counts b.access.usage (d ∷ []) (Some v)) change (subst (λ w. Counts w (c ∷ []) (Some v)) its counts) in
    subst (λ o. Goes (with_row_of row o) o new taken.More) is
    (goes_written b new (with_row_of row b) b.access.usage v refl to.2 usage asking
    (row_put b a v row to.0 to.1 (talk ∙ ap (λ d. written n d (use_of v)) change ∙ ap (λ m. written m (addition (hint_of b.hint) b.key row) (use_of v)) node)))

pub takes_row_out : (old b : Batching) (a : Accessing) (u v : Usage) (c : Change) (n : ℕ) → b ≡ old → u ≡ b.access.usage
    → c ≡ removal (hint_of b.hint) b.key → Counts u (c ∷ []) (Some v) → a.usage ≡ v → access.is_asking a.stage ≡ true
    → n ≡ node_of_area b.hint.old → access.now_talks a ≡ written n c (use_of v)
    → Goes (as_from from_out old) old (record b { access = a; part = part.Out }) taken.More
takes_row_out old b a u v c n is its change counts usage asking node talk =
    let new : Batching = record b { access = a; part = part.Out } in
    let to : Counts b.access.usage (removal (hint_of b.hint) b.key ∷ []) (Some v) =
    subst (λ d. Counts b.access.usage (d ∷ []) (Some v)) change (subst (λ w. Counts w (c ∷ []) (Some v)) its counts) in
    subst (λ o. Goes (as_from from_out o) o new taken.More) is
    (goes_written b new (as_from from_out b) b.access.usage v refl to.2 usage asking
    (row_out b a v to.0 to.1 (talk ∙ ap (λ d. written n d (use_of v)) change ∙ ap (λ m. written m (removal (hint_of b.hint) b.key) (use_of v)) node)))

pub put_is_much : (old b : Batching) (u : Usage) (c : Change) (row : List ℕ) → b ≡ old → u ≡ b.access.usage → c ≡ addition (hint_of b.hint) b.key row
    → Counts u (c ∷ []) None → Goes (with_row_of row old) old old (taken.Refused reply.TooMuch)
put_is_much old b u c row is its change counts =
    let to : Counts b.access.usage (addition (hint_of b.hint) b.key row ∷ []) None =
    subst (λ d. Counts b.access.usage (d ∷ []) None) change (subst (λ w. Counts w (c ∷ []) None) its counts) in
    subst (λ o. Goes (with_row_of row o) o o (taken.Refused reply.TooMuch)) is (goes_refused b (with_row_of row b) reply.TooMuch (much_put b row to))

pub out_is_much : (old b : Batching) (u : Usage) (c : Change) → b ≡ old → u ≡ b.access.usage → c ≡ removal (hint_of b.hint) b.key
    → Counts u (c ∷ []) None → Goes (as_from from_out old) old old (taken.Refused reply.TooMuch)
out_is_much old b u c is its change counts =
    let to : Counts b.access.usage (removal (hint_of b.hint) b.key ∷ []) None =
    subst (λ d. Counts b.access.usage (d ∷ []) None) change (subst (λ w. Counts w (c ∷ []) None) its counts) in
    subst (λ o. Goes (as_from from_out o) o o (taken.Refused reply.TooMuch)) is (goes_refused b (as_from from_out b) reply.TooMuch (much_out b to))

-- ---- the next key

-- behind keys that fit, the next one fits, and so do the others
wider : (k : ℤ) → FitsSigned w32 k → FitsSigned w64 k
wider k h = grind (arith, ints)

pub same_key : (key : ℤ) → FitsSigned w32 key → to_z w64 (of_z w64 key) ≡ key
same_key key fits = to_z-of_z w64 key (wider key fits)

pub key_fits : (keys : List ℤ) (key : ℤ) (rest : List ℤ) → keys ≡ key ∷ rest → All (FitsSigned w32) keys → FitsSigned w32 (to_z w64 (of_z w64 key))
key_fits keys key rest is all =
    let fits = All-head (FitsSigned w32) key rest (subst (All (FitsSigned w32)) is all) in
    subst (FitsSigned w32) (sym (same_key key fits)) fits

pub rest_fits : (keys : List ℤ) (key : ℤ) (rest : List ℤ) → keys ≡ key ∷ rest → All (FitsSigned w32) keys → All (FitsSigned w32) rest
rest_fits keys key rest is all = All-tail (FitsSigned w32) key rest (subst (All (FitsSigned w32)) is all)

abbrev left_now : Batching → Talk (Ends (Option ℕ))
left_now b = left_of (hint_of b.hint) b.keys b.moved (now_uses b)

pub next_key : (old b new : Batching) (key : ℤ) (rest : List ℤ) (t : Taken) → b ≡ old → b.keys ≡ key ∷ rest → All (FitsSigned w32) b.keys
    → Goes (as_from from_old (record b { key = to_z w64 (of_z w64 key); keys = rest })) (record b { key = to_z w64 (of_z w64 key); keys = rest }) new t
    → Goes (left_now old) old new t
next_key old b new key rest t is keys all goes =
    let fits = All-head (FitsSigned w32) key rest (subst (All (FitsSigned w32)) keys all) in
    let h = hint_of b.hint in
    let talk : left_now b ≡ as_from from_old (record b { key = to_z w64 (of_z w64 key); keys = rest }) =
    key_next b key rest keys ∙ ap (λ k. from_old h k rest b.moved (now_uses b)) (sym (same_key key fits)) in
    subst (λ o. Goes (left_now o) o new t) is (record {
      goes = subst (λ z. GoesWith z new t) (sym talk) goes.goes;
      stays = record { asking = goes.stays.asking; usage_tx = goes.stays.usage_tx; usage_nodes = goes.stays.usage_nodes };
    })

pub no_key : (old b : Batching) → b ≡ old → b.keys ≡ [] → Goes (left_now old) old old (taken.Came (Some b.moved))
no_key old b is none =
    subst (λ o. Goes (left_now o) o o (taken.Came (Some b.moved))) is
    (record { goes = key_none b none; stays = record { asking = tt; usage_tx = refl; usage_nodes = refl } })

-- ---- what came

pub no_row_goes : (old new : Batching) (row : Option (List ℕ)) (t : Taken) → row ≡ None → Goes (left_now old) old new t
    → Goes (with_row (hint_of old.hint) old.key old.keys old.moved row (now_uses old)) old new t
unfolding with_row
no_row_goes old new row t is goes = subst (λ r. Goes (with_row (hint_of old.hint) old.key old.keys old.moved r (now_uses old)) old new t) (sym is) goes

abbrev on : Batching → Part → Got → Talk (Ends (Option ℕ))
on b p g = behind (hint_of b.hint) p b.key b.keys b.moved g (now_uses b)

pub at_part : (old b new : Batching) (p : Part) (g : Got) (t : Taken) → b ≡ old → b.part ≡ p → (TellsAt p g → GoesWith (on old p g) new t)
    → TellsAt old.part g → GoesWith (then_on old g (now_uses old)) new t
at_part old b new p g t is part goes told =
    let is_part : old.part ≡ p = ap (λ o. o.part) (sym is) ∙ part in
    subst (λ q. GoesWith (on old q g) new t) (sym is_part) (goes (subst (λ q. TellsAt q g) is_part told))

pub entered : (old new : Batching) (g : Got) (t : Taken) → GoesWith (if_hinted (hint_of old.hint) old.keys old.moved (is_hinted (hint_of old.hint) (entry_got g)) (now_uses old)) new t
    → GoesWith (on old part.Entry g) new t
unfolding behind
entered old new g t goes = goes

pub locked_old : (old new : Batching) (g : Got) (t : Taken) → GoesWith (as_from from_new old) new t → GoesWith (on old part.Old g) new t
unfolding behind
locked_old old new g t goes = goes

pub locked_new : (old new : Batching) (g : Got) (t : Taken) → GoesWith (as_from from_row old) new t → GoesWith (on old part.New g) new t
unfolding behind
locked_new old new g t goes = goes

pub was_read : (old new : Batching) (g : Got) (t : Taken)
    → GoesWith (with_row (hint_of old.hint) old.key old.keys old.moved (row_got g) (now_uses old)) new t → GoesWith (on old part.Row g) new t
unfolding behind
was_read old new g t goes = goes

pub was_put : (old new : Batching) (g : Got) (t : Taken) → GoesWith (as_from from_out old) new t → GoesWith (on old part.Put g) new t
unfolding behind
was_put old new g t goes = goes

pub was_out : (old new : Batching) (g : Got) (t : Taken) → GoesWith (left_of (hint_of old.hint) old.keys (old.moved + 1) (now_uses old)) new t → GoesWith (on old part.Out g) new t
unfolding behind
was_out old new g t goes = goes

pub enters : (old b new : Batching) (g : Got) (t : Taken) (told : Bool) → b ≡ old → told ≡ is_hinted (hint_of b.hint) (entry_got g)
    → GoesWith (if_hinted (hint_of old.hint) old.keys old.moved told (now_uses old)) new t
    → GoesWith (if_hinted (hint_of old.hint) old.keys old.moved (is_hinted (hint_of old.hint) (entry_got g)) (now_uses old)) new t
enters old b new g t told is same goes =
    subst (λ y. GoesWith (if_hinted (hint_of old.hint) old.keys old.moved y (now_uses old)) new t) (same ∙ ap (λ o. is_hinted (hint_of o.hint) (entry_got g)) is) goes

-- ---- a key that is passed on

pub goal_same : (h : Moving) (area : ℕ) (key : ℤ) (reads : Bool) (g : Goal) → FitsSigned w32 key → g ≡ key_goal h area (to_z w64 (of_z w64 key)) reads → g ≡ key_goal h area key reads
goal_same h area key reads g fits is = is ∙ ap (λ k. key_goal h area k reads) (same_key key fits)

pub place_same : (area table : ℕ) (key : ℤ) (p : Place) → FitsSigned w32 key → p ≡ place_in area table (to_z w64 (of_z w64 key)) → p ≡ place_in area table key
place_same area table key p fits is = is ∙ ap (place_in area table) (same_key key fits)
