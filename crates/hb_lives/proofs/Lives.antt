-- A session's life is made of stretches.
use Rattle.std.proofs.Common.{◌≡◌, ◌≢◌, ◌⊎◌, ◌∙◌, ℕ, ◌+◌, ◌≤◌, ◌<◌, ◌^◌, List, [], ◌∷◌, ◌++◌, true, false, append-nil, ap, arith, inl, inr, refl, subst, sym}
use Rattle.std.specs.Prelude.{◌||◌, IsTrue, MatchOption, ⊤, flat_map}
use Rattle.std.proofs.lemmas.Bool.{false≢true}
use Rattle.std.proofs.lemmas.List.{append_assoc}
use Rattle.std.proofs.lemmas.List.Concat.{flat_map-append}
use Rattle.hb_types.specs.declared.names.Owner.{Owner}
use Rattle.hb_types.specs.declared.trail.Call.{Call}
use Rattle.hb_types.specs.Lists.{Each}
use Rattle.hb_types.proofs.Ascending.{Each-append, Each-back, Each-front, Each-of}
use Rattle.hb_model.specs.declared.reply.Reply.{Reply}
use Rattle.hb_model.specs.declared.reply.Reply.TheVariants as reply
use Rattle.hb_model.specs.Items.{Item, calls_of, sql}
use Rattle.hb_model.specs.Outside.{is_outside}
use Rattle.hb_session.specs.declared.stage.Stage.TheVariants as stage
use Rattle.hb_session.specs.Runs.{call_of}
use Rattle.hb_session.specs.Sitting.{Sitting, counted, in_transaction, next_owner}
use Rattle.hb_session.specs.Steps.{SameSession}
use Rattle.hb_planlaws.specs.Planned.{most_back_ends}
use Rattle.hb_law.specs.Callers.{Obeys, WasDecided, begun_count, is_begun}
use Rattle.hb_law.specs.Standing.{is_aside}
use Rattle.hb_law.specs.Transactions.{IsOfStatements, TellsOutcome, Txn, begins_of, is_told, number_of}
use Rattle.hb_runs.specs.Kinds.{is_begin}
use Rattle.hb_obeys.specs.Obeying.{IsOfSystem}
use Rattle.hb_itemlaws.specs.Dividing.{Given}
use Rattle.hb_itemlaws.specs.GivingUp.{closing}
use Rattle.hb_itemlaws.specs.Owning.{AreBegins}
use Rattle.hb_itemlaws.specs.Txns.{AreLoose}
use Rattle.hb_sessionitems.specs.Owning.{Obeyed}
use Rattle.hb_sessionitems.specs.Txns.{DividedRightly}
use Rattle.hb_sessionitems.proofs.Txns.{closed_sessions_txns, given_up_sessions_txns, sessions_txns, unbegun_sessions_loose}
use Rattle.hb_sessionlaws.specs.Lives.{IsKept, Sits}
use Rattle.hb_sessionlaws.specs.Lives as sits
use Rattle.hb_sessionlaws.proofs.Lives.{lives_obey}
use Rattle.hb_lives.specs.Lives.{Ended, EndedAmid, EndedBetween, Lived, LivesAreStretches, LivesAreTold, Opened, amid, between, ended, last_of, passed, rests}
use Rattle.hb_lives.specs.Stretches.{AreOnce, IsLooseItem, IsOwned, Stretches, loose, nothing, owned, txn_of}
use Rattle.hb_lives.proofs.Placing.{Rises, last_above, of_statements, rises_below, rises_items, rises_placed, shown_items}
use Rattle.hb_lives.proofs.Stretches.{calls_append, stretches_txns}

-- ---- steps

same_on : (s m e : Sitting) → SameSession s m → SameSession m e → SameSession s e
same_on s m e a b = record { index = b.index ∙ a.index; back_ends = b.back_ends ∙ a.back_ends }

kept_on : (s e : Sitting) (cs : List Call) → Sits s cs e → IsKept s → IsKept e × SameSession s e
kept_on s _ _ sits.stays k = (k, record { index = refl; back_ends = refl })
kept_on s e _ (sits.gives {m = m} {cs = cs} k idle g more) first = let r = kept_on m e cs more k in (r.0, same_on s m e g.same r.1)
kept_on s e _ (sits.asks {m = m} {cs = cs} p a shows k h more) first = let r = kept_on m e cs more k in (r.0, same_on s m e h.same r.1)
kept_on s e _ (sits.refuses {m = m} {cs = cs} shows k h more) first = let r = kept_on m e cs more k in (r.0, same_on s m e h.same r.1)
kept_on s e _ (sits.abandons {m = m} {cs = cs} k h more) first = let r = kept_on m e cs more k in (r.0, same_on s m e h.same r.1)
kept_on s e _ (sits.closes {m = m} {cs = cs} k h more) first = let r = kept_on m e cs more k in (r.0, same_on s m e h.same r.1)

sits_on : (s m e : Sitting) (cs ds : List Call) → Sits s cs m → Sits m ds e → Sits s (cs ++ ds) e
sits_on s _ e _ ds sits.stays then_on = then_on
sits_on s m e _ ds (sits.gives {m = n} {cs = cs} k idle g more) then_on = sits.gives k idle g (sits_on n m e cs ds more then_on)
sits_on s m e _ ds (sits.asks {m = n} {cs = cs} p a shows k h more) then_on = sits.asks p a shows k h (sits_on n m e cs ds more then_on)
sits_on s m e _ ds (sits.refuses {m = n} {cs = cs} shows k h more) then_on = sits.refuses shows k h (sits_on n m e cs ds more then_on)
sits_on s m e _ ds (sits.abandons {m = n} {cs = cs} k h more) then_on = sits.abandons k h (sits_on n m e cs ds more then_on)
sits_on s m e _ ds (sits.closes {m = n} {cs = cs} k h more) then_on = sits.closes k h (sits_on n m e cs ds more then_on)

lived_sits : (from : ℕ) (s e : Sitting) (calls : List Call) (replies : List Reply) → Lived from s calls replies e → Sits s calls e
lived_sits from s _ _ _ rests = sits.stays
lived_sits from s e _ _ (ended {m = m} {calls = calls} {more = more} {shown = shown} w ws o h si rest) = sits_on s m e calls more si (lived_sits (last_of from (w ∷ ws)) m e more shown rest)
lived_sits from s e _ _ (amid {m = m} {calls = calls} {more = more} {shown = shown} w ws o h si rest) = sits_on s m e calls more si (lived_sits (last_of from (w ∷ ws)) m e more shown rest)
lived_sits from s e _ _ (between {m = m} {calls = calls} {more = more} {shown = shown} place w ws o h si rest) = sits_on s m e calls more si (lived_sits (last_of from (w ∷ ws)) m e more shown rest)
lived_sits from s e calls _ (passed {shown = shown} w r lt aside rest) = lived_sits w.0 s e calls shown rest

-- ---- one stretch

-- its items are the session's next transaction, or one item of none
abbrev Kind : Sitting → List Item → List Item → Type 0
Kind s front items =
    ((owner : Owner) × (tx : ℕ) × IsOwned s.back_ends s.index front owner tx items) ⊎ ((i : Item) × (items ≡ i ∷ []) × IsLooseItem i)

record One (from last : ℕ) (s : Sitting) (front : List Item) (calls : List Call) (replies : List Reply) : Type 0 where
  items : List Item
  made_of : calls_of items ≡ calls
  shown : flat_map (λ i. i.lines) items ≡ replies
  rises : (rest : List Item) → Rises last rest → Rises from (items ++ rest)
  kind : Kind s front items

counted_next : (begun n : ℕ) → begun + 1 < 2 ^ 64 → begun ≡ n → counted begun ≡ n + 1
counted_next begun n room e = omega (arith, room, e)

begins_all : (calls : List Call) → Each IsOfSystem calls → AreBegins calls
begins_all calls all = Each-of IsOfSystem (λ (c : Call). IsTrue (is_begun c.answer) → IsTrue (is_begin c.request)) calls (λ c h. h.begins) all

module _ (from : ℕ) (s : Sitting) (front : List Item) (few : s.back_ends ≤ most_back_ends) (kept : IsKept s) (counts : s.begun ≡ begun_count (calls_of front)) where
  divided_one : (work : Given) (works : List Given) (calls : List Call) (replies : List Reply) → Opened from s work works → DividedRightly s.back_ends (next_owner s) (work ∷ works) calls replies
      → One from (last_of from (work ∷ works)) s front calls replies
  divided_one work works calls replies o (d, tx, r) = record {
    items = d.items;
    made_of = d.made_of;
    shown = shown_items (work ∷ works) replies d.items d.each;
    rises = λ rest h. rises_items from (work ∷ works) replies d.items rest o.ascending d.each h;
    kind = inl (
      next_owner s,
      tx,
      record {
        right = r;
        kinds = of_statements (work ∷ works) replies d.items d.each;
        whose = refl;
        counted = counted_next s.begun (begun_count (calls_of front)) kept.room counts;
      },
    );
  }

  loose_one : (work : Given) (works : List Given) (calls : List Call) (replies : List Reply) → Opened from s work works → begins_of calls ≡ [] → AreLoose calls replies
      → One from (last_of from (work ∷ works)) s front calls replies
  loose_one work works calls replies o none l =
      let i : Item = record { place = work.0; doing = sql work.1; calls = calls; lines = l.reply ∷ [] } in
      record {
        items = i ∷ [];
        made_of = append-nil calls;
        shown = sym l.alone;
        rises = λ rest h. inr (o.ascending.0, work.1, refl, rises_below work.0 (last_of work.0 works) rest (last_above work.0 works o.ascending.1) h);
        kind = inr (i, refl, record { nothing_done = l.loose work.0 (sql work.1); none = none; tells = l.tells work.0 (sql work.1) });
      }

  some_first : (x : ℕ) (xs ys : List ℕ) → ys ≡ x ∷ xs → ys ≢ []
  some_first x xs ys e none = absurd (cc (sym e ∙ none))

  -- begun or not
  ended_by : (m : Sitting) (work : Given) (works : List Given) (calls : List Call) (replies : List Reply) → Opened from s work works → (h : Ended s m (work ∷ works) calls replies)
      → AreBegins (h.before ++ call_of h.pending h.answer ∷ []) → (begun : List ℕ) → begins_of (h.before ++ call_of h.pending h.answer ∷ []) ≡ begun
      → One from (last_of from (work ∷ works)) s front (h.before ++ call_of h.pending h.answer ∷ []) (h.said ++ h.reply ∷ [])
  ended_by m work works calls replies o h sys [] e =
      loose_one work works (h.before ++ call_of h.pending h.answer ∷ []) (h.said ++ h.reply ∷ []) o e
      (unbegun_sessions_loose s h.last m work works h.before h.said o.idle h.runs h.pending h.answer h.reply h.ends e)
  ended_by m work works calls replies o h sys (x ∷ xs) e =
      divided_one work works (h.before ++ call_of h.pending h.answer ∷ []) (h.said ++ h.reply ∷ []) o
      (sessions_txns s h.last m work works h.before h.said few o.plain o.planned o.idle h.runs h.pending h.answer h.reply h.ends sys
      (some_first x xs (begins_of (h.before ++ call_of h.pending h.answer ∷ [])) e))

  ended_one : (m : Sitting) (work : Given) (works : List Given) (calls : List Call) (replies : List Reply) → Opened from s work works → Ended s m (work ∷ works) calls replies → AreBegins calls
      → One from (last_of from (work ∷ works)) s front calls replies
  ended_one m work works calls replies o h sys =
      let all : List Call = h.before ++ call_of h.pending h.answer ∷ [] in
      subst (λ cs. One from (last_of from (work ∷ works)) s front cs replies) (sym h.calls_are)
      (subst (λ rs. One from (last_of from (work ∷ works)) s front all rs) (sym h.replies_are)
      (ended_by m work works calls replies o h (subst AreBegins h.calls_are sys) (begins_of all) refl))

  amid_one : (m : Sitting) (work : Given) (works : List Given) (calls : List Call) (replies : List Reply) → Opened from s work works → EndedAmid s m (work ∷ works) calls replies → AreBegins calls
      → Obeyed s calls → One from (last_of from (work ∷ works)) s front calls replies
  amid_one m work works calls replies o h sys obeyed =
      let all : List Call = h.before ++ (h.asked ++ h.rolled) in
      subst (λ cs. One from (last_of from (work ∷ works)) s front cs replies) (sym h.calls_are)
      (subst (λ rs. One from (last_of from (work ∷ works)) s front all rs) (sym h.replies_are)
      (divided_one work works all (h.said ++ h.reply ∷ []) o
      (given_up_sessions_txns s h.last h.given_up work works h.before h.asked h.rolled h.said h.why h.reply few o.plain o.planned o.idle h.runs h.turn h.gives_up h.ends
      (subst AreBegins h.calls_are sys) (subst (Obeyed s) h.calls_are obeyed))))

  between_one : (m : Sitting) (place : ℕ) (work : Given) (works : List Given) (calls : List Call) (replies : List Reply) → Opened from s work works
      → EndedBetween s m (work ∷ works) calls replies → AreBegins calls → Obeyed s calls → One from (last_of from (work ∷ works)) s front calls replies
  between_one m place work works calls replies o h sys obeyed =
      let all : List Call = h.before ++ h.rolled in
      let c = closed_sessions_txns s h.last h.closed work works h.before h.rolled h.said h.reply place few o.plain o.planned o.idle h.runs h.turn h.closes h.ends
      (subst AreBegins h.calls_are sys) (subst (Obeyed s) h.calls_are obeyed) in
      let d = c.0 in
      let end : List Item = closing place d.last h.reply ∷ [] in
      let it : One from (last_of from (work ∷ works)) s front all (h.said ++ h.reply ∷ []) = record {
        items = d.items ++ end;
        made_of = calls_append d.items end ∙ ap (λ l. calls_of d.items ++ l) (append-nil d.last) ∙ d.made_of;
        shown = flat_map-append (λ (i : Item). i.lines) d.items end ∙ ap (λ l. l ++ h.reply ∷ []) (shown_items (work ∷ works) h.said d.items d.each);
        rises = λ rest x. subst (Rises from) (sym (append_assoc d.items end rest))
            (rises_items from (work ∷ works) h.said d.items (closing place d.last h.reply ∷ rest) o.ascending d.each (inl (refl, x)));
        kind = inl (
          next_owner s,
          c.1,
          record {
            right = c.2;
            kinds = Each-append (λ (i : Item). IsOfStatements i.doing) d.items end (of_statements (work ∷ works) h.said d.items d.each) (tt, tt);
            whose = refl;
            counted = counted_next s.begun (begun_count (calls_of front)) kept.room counts;
          },
        );
      } in
      subst (λ cs. One from (last_of from (work ∷ works)) s front cs replies) (sym h.calls_are)
      (subst (λ rs. One from (last_of from (work ∷ works)) s front all rs) (sym h.replies_are) it)

-- a work that was refused at once
aside_tells : (r : Reply) → is_aside r ≡ true → MatchOption (number_of r) ⊤ (λ n. WasDecided n []) × ((txns : List Txn) → TellsOutcome txns [] r)
aside_tells reply.Busy e = (tt, λ txns. tt)
aside_tells reply.InTransaction e = (tt, λ txns. tt)
aside_tells reply.NoTransaction e = (tt, λ txns. tt)
aside_tells reply.Full e = (tt, λ txns. tt)
aside_tells _ e = absurd (false≢true e)

passed_one : (from : ℕ) (s : Sitting) (front : List Item) (work : Given) (r : Reply) → from < work.0 → is_aside r ≡ true → One from work.0 s front [] (r ∷ [])
passed_one from s front work r lt aside =
    let i : Item = record { place = work.0; doing = sql work.1; calls = []; lines = r ∷ [] } in
    let tells = aside_tells r aside in
    record {
      items = i ∷ [];
      made_of = refl;
      shown = refl;
      rises = λ rest h. inr (lt, work.1, refl, h);
      kind = inr (
        i,
        refl,
        record {
          nothing_done = record { asks_none = tt; tells_none = (ap (λ b. (b || is_outside r) || is_told r) aside, tt) };
          none = refl;
          tells = record { numbers = (tells.0, tt); outcomes = λ txns. (tells.1 txns, tt) };
        },
      );
    }

-- ---- stretch by stretch

record Rising (from : ℕ) (s : Sitting) (front : List Item) (calls : List Call) (replies : List Reply) : Type 0 where
  items : List Item
  txns : List Txn
  made_of : calls_of items ≡ calls
  shown : flat_map (λ i. i.lines) items ≡ replies
  stretches : Stretches s.back_ends s.index front items txns
  rises : Rises from items

stretched : (s : Sitting) (front items more : List Item) (txns : List Txn) → Kind s front items → Stretches s.back_ends s.index (front ++ items) more txns
    → (ts : List Txn) × Stretches s.back_ends s.index front (items ++ more) ts
stretched s front items more txns (inl (owner, tx, o)) rest = (txn_of owner tx items ∷ txns, owned owner tx o rest)
stretched s front items more txns (inr (i, e, l)) rest = (
  txns,
  subst (λ is. Stretches s.back_ends s.index front (is ++ more) txns) (sym e)
      (loose l (subst (λ is. Stretches s.back_ends s.index (front ++ is) more txns) e rest)),
)

glued : (from last : ℕ) (s m : Sitting) (front : List Item) (calls more : List Call) (replies shown : List Reply) → (o : One from last s front calls replies) → SameSession s m
    → Rising last m (front ++ o.items) more shown → Rising from s front (calls ++ more) (replies ++ shown)
glued from last s m front calls more replies shown o same r =
    let st : Stretches s.back_ends s.index (front ++ o.items) r.items r.txns =
    subst (λ b. Stretches b s.index (front ++ o.items) r.items r.txns) same.back_ends (subst (λ i. Stretches m.back_ends i (front ++ o.items) r.items r.txns) same.index r.stretches) in
    let k = stretched s front o.items r.items r.txns o.kind st in
    record {
      items = o.items ++ r.items;
      txns = k.0;
      made_of = calls_append o.items r.items ∙ ap (λ l. l ++ calls_of r.items) o.made_of ∙ ap (λ l. calls ++ l) r.made_of;
      shown = flat_map-append (λ (i : Item). i.lines) o.items r.items ∙ ap (λ l. l ++ flat_map (λ (i : Item). i.lines) r.items) o.shown ∙ ap (λ l. replies ++ l) r.shown;
      stretches = k.1;
      rises = o.rises r.items r.rises;
    }

-- behind a stretch
record Behind (s m : Sitting) (front : List Item) : Type 0 where
  few : m.back_ends ≤ most_back_ends
  kept : IsKept m
  same : SameSession s m
  counts : m.begun ≡ begun_count (calls_of front)

behind : (from last : ℕ) (s m : Sitting) (front : List Item) (calls : List Call) (replies : List Reply) → s.back_ends ≤ most_back_ends → IsKept s → m.begun ≡ begun_count (calls_of front ++ calls)
    → Sits s calls m → (o : One from last s front calls replies) → Behind s m (front ++ o.items)
behind from last s m front calls replies few kept counts si o =
    let k = kept_on s m calls si kept in
    record {
      few = subst (λ n. n ≤ most_back_ends) (sym k.1.back_ends) few;
      kept = k.0;
      same = k.1;
      counts = counts ∙ ap begun_count (sym (calls_append front o.items ∙ ap (λ l. calls_of front ++ l) o.made_of));
    }

idle_none : (s : Sitting) → s.stage ≡ stage.Idle → in_transaction s.stage ≡ false
idle_none s e = ap in_transaction e

lived : (from : ℕ) (s e : Sitting) (front : List Item) (calls : List Call) (replies : List Reply) → s.back_ends ≤ most_back_ends → IsKept s → s.begun ≡ begun_count (calls_of front)
    → Lived from s calls replies e → Each IsOfSystem calls → Rising from s front calls replies
lived from s _ front _ _ few kept counts rests sys = record { items = []; txns = []; made_of = refl; shown = refl; stretches = nothing; rises = tt }
lived from s e front _ _ few kept counts (ended {m = m} {calls = calls} {more = more} {replies = replies} {shown = shown} w ws o h si rest) sys =
    let last : ℕ = last_of from (w ∷ ws) in
    let here = Each-front IsOfSystem calls more sys in
    let obey = lives_obey s m (calls_of front) calls kept (idle_none s o.idle) counts si here in
    let one = ended_one from s front few kept counts m w ws calls replies o h (begins_all calls here) in
    let b = behind from last s m front calls replies few kept obey.1 si one in
    glued from last s m front calls more replies shown one b.same (lived last m e (front ++ one.items) more shown b.few b.kept b.counts rest (Each-back IsOfSystem calls more sys))
lived from s e front _ _ few kept counts (amid {m = m} {calls = calls} {more = more} {replies = replies} {shown = shown} w ws o h si rest) sys =
    let last : ℕ = last_of from (w ∷ ws) in
    let here = Each-front IsOfSystem calls more sys in
    let obey = lives_obey s m (calls_of front) calls kept (idle_none s o.idle) counts si here in
    let one = amid_one from s front few kept counts m w ws calls replies o h (begins_all calls here) (calls_of front, obey.0) in
    let b = behind from last s m front calls replies few kept obey.1 si one in
    glued from last s m front calls more replies shown one b.same (lived last m e (front ++ one.items) more shown b.few b.kept b.counts rest (Each-back IsOfSystem calls more sys))
lived from s e front _ _ few kept counts (between {m = m} {calls = calls} {more = more} {replies = replies} {shown = shown} place w ws o h si rest) sys =
    let last : ℕ = last_of from (w ∷ ws) in
    let here = Each-front IsOfSystem calls more sys in
    let obey = lives_obey s m (calls_of front) calls kept (idle_none s o.idle) counts si here in
    let one = between_one from s front few kept counts m place w ws calls replies o h (begins_all calls here) (calls_of front, obey.0) in
    let b = behind from last s m front calls replies few kept obey.1 si one in
    glued from last s m front calls more replies shown one b.same (lived last m e (front ++ one.items) more shown b.few b.kept b.counts rest (Each-back IsOfSystem calls more sys))
lived from s e front calls _ few kept counts (passed {shown = shown} w r lt aside rest) sys =
    let one = passed_one from s front w r lt aside in
    let same : calls_of (front ++ one.items) ≡ calls_of front = calls_append front one.items ∙ ap (λ l. calls_of front ++ l) one.made_of ∙ append-nil (calls_of front) in
    glued from w.0 s s front [] calls (r ∷ []) shown one (record { index = refl; back_ends = refl })
    (lived w.0 s e (front ++ one.items) calls shown few kept (counts ∙ ap begun_count (sym same)) rest sys)

-- ---- the laws

pub lives_stretches : LivesAreStretches
lives_stretches from old new front calls replies few kept counts life sys =
    let r = lived from old new front calls replies few kept counts life sys in
    record { items = r.items; txns = r.txns; made_of = r.made_of; shown = r.shown; stretches = r.stretches; placed = λ before. rises_placed from before r.items r.rises }

pub lives_told : LivesAreTold
lives_told old new calls replies few kept none begun life sys once =
    let m = lives_stretches 0 old new [] calls replies few kept begun life sys in
    let obey = lives_obey old new [] calls kept none begun (lived_sits 0 old new calls replies life) sys in (
      m,
      obey.0,
      λ lists at. stretches_txns old.back_ends old.index lists m.items m.txns at m.stretches (subst (Obeys old.index) (sym m.made_of) obey.0)
          (subst AreBegins (sym m.made_of) (begins_all calls sys)) (subst (λ l. AreOnce (begins_of l)) (sym m.made_of) once),
    )
