-- Clean rows over the items of one transaction, where each row that its calls were answered was written before or is clean.
use Rattle.std.proofs.Common.{◌≡◌, ◌≢◌, ◌⊎◌, ◌∙◌, ℕ, ◌≤◌, Bool, true, false, List, [], ◌∷◌, ◌++◌, Option, Some, ap, append_assoc, append-nil, arith, inl, inr, length, refl, subst, sym}
use Rattle.std.specs.Prelude.{IsTrue}
use Rattle.std.proofs.lemmas.Bool.{false≢true}
use Rattle.hb_types.specs.declared.change.Stored.{Stored}
use Rattle.hb_types.specs.declared.places.Place.{Place}
use Rattle.hb_types.specs.declared.request.Request.{Request}
use Rattle.hb_types.specs.declared.request.Request.TheVariants as request
use Rattle.hb_types.specs.declared.trail.Call.{Call}
use Rattle.hb_types.specs.declared.value.Value.{Value}
use Rattle.hb_types.specs.Lists.{Each, EachBehind, Has, IsIn}
use Rattle.hb_types.specs.Rows.{values_in}
use Rattle.hb_types.proofs.Ascending.{Each-append, Each-back, Each-front, Each-in, Each-of, Has-front, in_Each}
use Rattle.hb_types.proofs.PutLaws.{by_test}
use Rattle.hb_loglaws.proofs.Members.{found, in_append}
use Rattle.hb_model.specs.declared.reply.Reply.{Reply}
use Rattle.hb_model.specs.declared.reply.Reply.TheVariants as reply
use Rattle.hb_model.specs.declared.statement.Statement.{Statement}
use Rattle.hb_model.specs.declared.statement.Statement.TheVariants as statement
use Rattle.hb_model.specs.declared.statement.What.{What}
use Rattle.hb_model.specs.declared.condition.Pred.{Pred}
use Rattle.hb_model.specs.declared.table.Table.{Table}
use Rattle.hb_model.specs.Answers.{given, is_of_rows, of_rows, rows_answered}
use Rattle.hb_model.specs.Asked.{AreWhereAsked, IsWhereAsked}
use Rattle.hb_model.specs.Items.{Doing, Item, calls_of, sql, tending, turn}
use Rattle.hb_model.specs.Rows.{assigned}
use Rattle.hb_model.specs.Sources.{IsMadeOf, IsSelection, IsShownOf, IsUsers, RowMade, Sourced, WriteMade}
use Rattle.hb_disks.specs.Images.{Logs}
use Rattle.hb_law.specs.Clean.{IsClean, IsCleanly, RowsClean, inserted, made, stood}
use Rattle.hb_law.specs.Transactions.{AllAnswered, CommitTells, IsBoundItem, IsBoundStatement, IsOfStatements, IsReplyTo, IsTurning, TendingTells, is_of_turn, is_rows, is_select, reply_in}
use Rattle.hb_whose.proofs.Parts.{some_is, stands_at}
use Rattle.hb_clean.proofs.Reading.{Wrote}

-- ---- words on statements and replies

abbrev is_commit : Statement → Bool
is_commit statement.Commit = true
is_commit _ = false

commit_or : (st : Statement) → (st ≡ statement.Commit) ⊎ (st ≢ statement.Commit)
commit_or statement.Commit = inl refl
commit_or st = inr (λ h. false≢true (ap is_commit h))

select_of : (G : Type 0) (st : Statement) → IsTrue (is_select st) → ((w : What) (table : List ℕ) (pred : Option Pred) → st ≡ statement.Select w table pred → G) → G
select_of G (statement.Select w table pred) h f = f w table pred refl
select_of G st h f = absurd (false≢true h)

bound_other : (st : Statement) (calls : List Call) (lines : List Reply) → st ≢ statement.Commit → IsBoundStatement st calls lines → Each (IsReplyTo st calls) lines
bound_other statement.Commit calls lines n b = absurd (n refl)
bound_other st calls lines n b = b.2

of_one : (lines : List Reply) → length lines ≡ 1 → (r : Reply) × IsIn r lines
of_one [] e = absurd (omega (arith, e))
of_one (r ∷ rs) e = (r, inl refl)

only_reply : (lines : List Reply) (r : Reply) → length lines ≤ 1 → IsIn r lines → reply_in lines ≡ Some r
only_reply [] r le m = absurd m
only_reply (q ∷ []) r le (inl e) = ap (λ z. Some z) e
only_reply (q ∷ []) r le (inr m) = absurd m
only_reply (q ∷ p ∷ rs) r le m = absurd (omega (arith, le))

in_given : (r : Stored) (calls : List Call) → IsIn r (given calls) → (c : Call) × IsIn c calls × IsIn r (rows_answered c.request c.answer)
in_given r [] h = absurd h
in_given r (c ∷ cs) h = by (in_append r (rows_answered c.request c.answer) (given cs) h) (λ i. in_given r cs i)
  where
    by : IsIn r (rows_answered c.request c.answer) ⊎ IsIn r (given cs) → (IsIn r (given cs) → (d : Call) × IsIn d cs × IsIn r (rows_answered d.request d.answer))
        → (d : Call) × IsIn d (c ∷ cs) × IsIn r (rows_answered d.request d.answer)
    by (inl i) rest = (c, inl refl, i)
    by (inr i) rest = let k = rest i in (k.0, inr k.1, k.2)

-- what a Write of a statement is made of
made_of : (st : Statement) (rows : List Stored) (q : Request) (p : Place) (bytes : List ℕ) → WriteMade st rows q → Wrote p bytes q
    → 1 ≤ p.space.area → IsMadeOf st rows p bytes
made_of st rows (request.Write tx c) p bytes m w user =
    subst (λ z. RowMade st rows p z) w.1 (subst (λ z. RowMade st rows z c.row) (sym w.0) m) user
made_of st rows q p bytes m w user = absurd w

wrote_rows : (q : Request) (p : Place) (bytes : List ℕ) → Wrote p bytes q → is_of_rows q ≡ true
wrote_rows (request.Write tx c) p bytes w = refl
wrote_rows q p bytes w = absurd w

module _ (base logs : Logs) where
  clean_more : (own more : List Item) (row : List Value) → IsClean base logs own row → IsClean base logs (own ++ more) row
  clean_more own more _ (stood ds s t row m at k i) = stood ds s t row m at k i
  clean_more own more _ (inserted i table row h e) = inserted i table row (Has-front (λ y. y ≡ i) own more h) e
  clean_more own more _ (made i table sets pred t old c h e) = made i table sets pred t old (clean_more own more old c) (Has-front (λ y. y ≡ i) own more h) e

  -- the row is clean, whatever the transaction did before
  abbrev pub StoodClean : Stored → Type 0
  StoodClean r = (own : List Item) (row : List Value) → IsUsers r → values_in r.row ≡ Some row → IsClean base logs own row

  -- a user row that the call wrote is clean
  abbrev WroteClean : List Item → Call → Type 0
  WroteClean own c = (p : Place) (bytes : List ℕ) (row : List Value) → Wrote p bytes c.request → 1 ≤ p.space.area → values_in bytes ≡ Some row → IsClean base logs own row

  abbrev GivenClean : List Item → List Stored → Type 0
  GivenClean own rows = (r : Stored) → IsIn r rows → IsUsers r → (row : List Value) → values_in r.row ≡ Some row → IsClean base logs own row

  wrote_more : (own more : List Item) (calls : List Call) → Each (WroteClean own) calls → Each (WroteClean (own ++ more)) calls
  wrote_more own more calls w =
      Each-of (WroteClean own) (WroteClean (own ++ more)) calls (λ c f p bytes row wr user v. clean_more own more _ (f p bytes row wr user v)) w

  -- a row that a statement makes is clean
  made_clean : (own : List Item) (i : Item) (st : Statement) → i.doing ≡ sql st → IsIn i own ⊎ IsTrue (is_select st) → (rows : List Stored) → GivenClean own rows
      → (p : Place) (bytes : List ℕ) (row : List Value) → 1 ≤ p.space.area → IsMadeOf st rows p bytes → values_in bytes ≡ Some row → IsClean base logs own row
  made_clean own i (statement.Insert table values) e (inl k) rows gc p bytes row user m v =
      subst (IsClean base logs own) (some_is values row (sym m ∙ v)) (inserted i table values k e)
  made_clean own i (statement.Insert table values) e (inr s) rows gc p bytes row user m v = absurd (false≢true s)
  made_clean own i (statement.Update table sets pred) e (inl k) rows gc p bytes row user m v =
      let f = found (λ r. (t : Table) × (old : List Value) × (r.place ≡ p) × (values_in r.row ≡ Some old) × (values_in bytes ≡ Some (assigned t sets old))) rows m in
      let c = gc f.0 f.1 (subst (λ q. 1 ≤ q.space.area) (sym f.2.2) user) f.2.1 f.2.3 in
      subst (IsClean base logs own) (some_is (assigned f.2.0 sets f.2.1) row (sym f.2.4 ∙ v)) (made i table sets pred f.2.0 f.2.1 c k e)
  made_clean own i (statement.Update table sets pred) e (inr s) rows gc p bytes row user m v = absurd (false≢true s)
  made_clean own i st e k rows gc p bytes row user m v = absurd m

  bare_clean : (own : List Item) (calls : List Call) → of_rows calls ≡ [] → Each (WroteClean own) calls
  bare_clean own [] e = tt
  bare_clean own (c ∷ cs) e =
      by_test (is_of_rows c.request) (λ t. absurd (some (rw t at e)))
      (λ f. (λ p bytes row wr. absurd (false≢true (sym f ∙ wrote_rows c.request p bytes wr)), bare_clean own cs (rw f at e)))
    where
      some : c ∷ of_rows cs ≡ [] → ⊥
      some h = cc

  -- a reply that shows no rows
  by_rows : (own : List Item) (d : Doing) (r : Reply) → ((rows : List (List Value)) → r ≡ reply.Rows rows → RowsClean base logs own d (reply.Rows rows))
      → RowsClean base logs own d r
  by_rows own (sql (statement.Select w table pred)) (reply.Rows rows) f = f rows refl
  by_rows own (sql (statement.Select w table pred)) r f = tt
  by_rows own d (reply.Rows rows) f = f rows refl
  by_rows own d r f = tt

  module _ (all : List Call) (asked : AreWhereAsked all)
      (came : (front : List Call) (x : Call) (back : List Call) → all ≡ front ++ x ∷ back
      → Each (λ r. Has (λ c. Wrote r.place r.row c.request) front ⊎ StoodClean r) (rows_answered x.request x.answer)) where
    read_clean : (own : List Item) (front : List Call) (x : Call) (back : List Call) → all ≡ front ++ x ∷ back → Each (WroteClean own) front
        → GivenClean own (rows_answered x.request x.answer)
    read_clean own front x back e w r i user row v =
        by (in_Each (λ r. Has (λ c. Wrote r.place r.row c.request) front ⊎ StoodClean r) r (rows_answered x.request x.answer) i (came front x back e))
      where
        by : Has (λ c. Wrote r.place r.row c.request) front ⊎ StoodClean r → IsClean base logs own row
        by (inl h) = let f = found (λ c. Wrote r.place r.row c.request) front h in in_Each (WroteClean own) f.0 front f.1 w r.place r.row row f.2 user v
        by (inr s) = s own row user v

    given_clean : (own : List Item) (past done more : List Call) → all ≡ (past ++ done) ++ more → Each (WroteClean own) (past ++ done) → GivenClean own (given done)
    given_clean own past done more e w r i user row v =
        let g = in_given r done i in
        let s = stands_at g.0 done g.1 in
        let split : past ++ done ≡ (past ++ s.front) ++ g.0 ∷ s.back = ap (λ l. past ++ l) s.parts ∙ sym (append_assoc past s.front (g.0 ∷ s.back)) in
        read_clean own (past ++ s.front) g.0 (s.back ++ more) (e ∙ ap (λ l. l ++ more) split ∙ append_assoc (past ++ s.front) (g.0 ∷ s.back) more)
        (Each-front (WroteClean own) (past ++ s.front) (g.0 ∷ s.back) (subst (Each (WroteClean own)) split w)) r g.2 user row v

    writes_clean : (own : List Item) (i : Item) (st : Statement) → i.doing ≡ sql st → IsIn i own ⊎ IsTrue (is_select st) → (past done cs more : List Call)
        → all ≡ (past ++ done) ++ (cs ++ more) → EachBehind (λ before c. WriteMade st (given before) c.request) done cs → Each (WroteClean own) (past ++ done)
        → Each (WroteClean own) (past ++ (done ++ cs))
    writes_clean own i st d k past done [] more e b w = subst (λ l. Each (WroteClean own) (past ++ l)) (sym (append-nil done)) w
    writes_clean own i st d k past done (c ∷ cs) more e b w =
        let one : WroteClean own c = λ p bytes row wr user v. made_clean own i st d k (given done) (given_clean own past done ((c ∷ cs) ++ more) e w) p bytes row user
        (made_of st (given done) c.request p bytes b.0 wr user) v in
        let join : (past ++ done) ++ c ∷ [] ≡ past ++ (done ++ c ∷ []) = append_assoc past done (c ∷ []) in
        subst (λ l. Each (WroteClean own) (past ++ l)) (append_assoc done (c ∷ []) cs)
        (writes_clean own i st d k past (done ++ c ∷ []) cs more
        (e ∙ sym (append_assoc (past ++ done) (c ∷ []) (cs ++ more)) ∙ ap (λ l. l ++ (cs ++ more)) join) b.1
        (subst (Each (WroteClean own)) join (Each-append (WroteClean own) (past ++ done) (c ∷ []) w (one, tt))))

    -- ---- one item

    module _ (own : List Item) (past : List Call) (i : Item) (more : List Call) (e : all ≡ past ++ (i.calls ++ more))
        (bound : IsBoundItem i) (kind : IsOfStatements i.doing) (w : Each (WroteClean own) past) where
      abbrev doing_so : Doing → Item
      doing_so d = record { place = i.place; doing = d; calls = i.calls; lines = i.lines }

      here_asked : AreWhereAsked i.calls
      here_asked =
          Each-front (λ c. IsWhereAsked c.request c.answer) i.calls more
          (Each-back (λ c. IsWhereAsked c.request c.answer) past (i.calls ++ more) (subst AreWhereAsked e asked))

      start : all ≡ (past ++ []) ++ (i.calls ++ more)
      start = e ∙ ap (λ l. l ++ (i.calls ++ more)) (sym (append-nil past))

      line_sourced : (st : Statement) → i.doing ≡ sql st → st ≢ statement.Commit → (r : Reply) → IsIn r i.lines → Sourced st i.calls r
      line_sourced st d n r m =
          let b : IsBoundStatement st i.calls i.lines = subst (λ z. IsBoundItem (doing_so z)) d bound in
          (in_Each (IsReplyTo st i.calls) r i.lines m (bound_other st i.calls i.lines n b)).sourced here_asked

      writes_of_it : (then : List Item) (st : Statement) → i.doing ≡ sql st → IsIn i then ⊎ IsTrue (is_select st) → Each (WroteClean then) past
          → (r : Reply) → Sourced st i.calls r
          → Each (WroteClean then) (past ++ i.calls)
      writes_of_it then st d k before r s =
          writes_clean then i st d k past [] i.calls more start s.written (subst (Each (WroteClean then)) (sym (append-nil past)) before)

      last_in : (xs : List Item) → IsIn i (xs ++ i ∷ [])
      last_in [] = inl refl
      last_in (x ∷ xs) = inr (last_in xs)

      abbrev after : List Item
      after = own ++ i ∷ []

      bare_behind : of_rows i.calls ≡ [] → Each (WroteClean after) (past ++ i.calls)
      bare_behind b = Each-append (WroteClean after) past i.calls (wrote_more own (i ∷ []) past w) (bare_clean after i.calls b)

      -- what it wrote is clean, where it has its line
      wrote : length i.lines ≡ 1 → Each (WroteClean after) (past ++ i.calls)
      wrote one = by i.doing refl bound kind
        where
          by : (d : Doing) → i.doing ≡ d → IsBoundItem (doing_so d) → IsOfStatements d → Each (WroteClean after) (past ++ i.calls)
          by (sql st) q b t = statement_of (commit_or st)
            where
              statement_of : (st ≡ statement.Commit) ⊎ (st ≢ statement.Commit) → Each (WroteClean after) (past ++ i.calls)
              statement_of (inl c) = bare_behind (subst (λ z. IsBoundStatement z i.calls i.lines) c b).0.0
              statement_of (inr n) =
                  let r = of_one i.lines one in writes_of_it after st q (inl (last_in own)) (wrote_more own (i ∷ []) past w) r.0 (line_sourced st q n r.0 r.1)
          by (turn table most) q b t = absurd t
          by tending q b t = bare_behind b.1.0

      shown_clean : (st : Statement) → i.doing ≡ sql st → (r : Reply) → IsIn r i.lines
          → (rows : List (List Value)) → r ≡ reply.Rows rows
          → st ≢ statement.Commit → IsBoundStatement st i.calls i.lines
          → RowsClean base logs own (sql st) (reply.Rows rows)
      shown_clean st d r m rows q n b =
          let reply_is : IsReplyTo st i.calls r = in_Each (IsReplyTo st i.calls) r i.lines m (bound_other st i.calls i.lines n b) in
          let select : IsTrue (is_select st) = reply_is.of_select (ap is_rows q) in
          let s : Sourced st i.calls r = line_sourced st d n r m in
          let written : Each (WroteClean own) (past ++ i.calls) = writes_of_it own st d (inr select) w r s in
          let clean : GivenClean own (given i.calls) = given_clean own past i.calls more (e ∙ sym (append_assoc past i.calls more)) written in
          select_of (RowsClean base logs own (sql st) (reply.Rows rows)) st select
          (λ w table pred is. subst (λ z. RowsClean base logs own (sql z) (reply.Rows rows)) (sym is)
          (λ shows. Each-of (IsShownOf (given i.calls)) (IsCleanly base logs own) rows (λ shown h. cleanly clean shown h)
          ((subst (λ z. Sourced z i.calls (reply.Rows rows)) is (subst (Sourced st i.calls) q s)).shown shows)))
        where
          cleanly : GivenClean own (given i.calls) → (shown : List Value) → IsShownOf (given i.calls) shown → IsCleanly base logs own shown
          cleanly clean shown h =
              let f = found
              (λ r. IsUsers r × ((row : List Value) × (positions : List ℕ) × (values_in r.row ≡ Some row) × IsSelection row positions shown)) (given i.calls) h in
              (f.2.1.0, f.2.1.1, clean f.0 f.1 f.2.0 f.2.1.0 f.2.1.2, f.2.1.3)

      -- what it shows is clean
      shows : length i.lines ≤ 1 → Each (RowsClean base logs own i.doing) i.lines
      shows few = Each-in (RowsClean base logs own i.doing) i.lines (λ r m. by_rows own i.doing r (λ rows q. by i.doing refl bound kind r m rows q))
        where
          by : (d : Doing) → i.doing ≡ d → IsBoundItem (doing_so d) → IsOfStatements d → (r : Reply) → IsIn r i.lines
              → (rows : List (List Value)) → r ≡ reply.Rows rows
              → RowsClean base logs own d (reply.Rows rows)
          by (sql st) d b t r m rows q = statement_of (commit_or st)
            where
              statement_of : (st ≡ statement.Commit) ⊎ (st ≢ statement.Commit) → RowsClean base logs own (sql st) (reply.Rows rows)
              statement_of (inl c) =
                  let tells : CommitTells i.calls (Some (reply.Rows rows)) = subst (CommitTells i.calls) (only_reply i.lines r few m ∙ ap (λ z. Some z) q)
                  (subst (λ z. IsBoundStatement z i.calls i.lines) c b).1 in
                  absurd (false≢true tells.1)
              statement_of (inr n) = shown_clean st d r m rows q n b
          by (turn table most) d b t r m rows q = absurd t
          by tending d b t r m rows q = absurd (none (subst (TendingTells i.calls) q (in_Each (TendingTells i.calls) r i.lines m b.2)))
            where
              none : TendingTells i.calls (reply.Rows rows) → ⊥
              none (inl h) = false≢true h
              none (inr h) = false≢true h.0

    -- ---- all items

    pub all_clean : (own : List Item) (past : List Call) (is : List Item) → all ≡ past ++ calls_of is → Each IsBoundItem is
        → Each (λ i. IsOfStatements i.doing) is → AllAnswered is
        → Each (WroteClean own) past
        → EachBehind (λ own i. Each (RowsClean base logs own i.doing) i.lines) own is
    all_clean own past [] e b k a w = tt
    all_clean own past (i ∷ []) e b k a w = (shows own past i [] e b.0 k.0 w a, tt)
    all_clean own past (i ∷ j ∷ is) e b k a w = (
      shows own past i (calls_of (j ∷ is)) e b.0 k.0 w (at_most a.0),
      all_clean (own ++ i ∷ []) (past ++ i.calls) (j ∷ is) (e ∙ sym (append_assoc past i.calls (calls_of (j ∷ is)))) b.1 k.1 a.1
          (wrote own past i (calls_of (j ∷ is)) e b.0 k.0 w a.0),
    )
      where
        at_most : length i.lines ≡ 1 → length i.lines ≤ 1
        at_most h = omega (arith, h)

  -- a turn shows no rows
  pub turn_clean : (i : Item) → IsTurning i.doing → IsBoundItem i → Each (RowsClean base logs [] i.doing) i.lines
  turn_clean i kind bound = Each-in (RowsClean base logs [] i.doing) i.lines (λ r m. by_rows [] i.doing r (λ rows q. by i.doing bound kind r m rows q))
    where
      by : (d : Doing) → IsBoundItem (record { place = i.place; doing = d; calls = i.calls; lines = i.lines }) → IsTurning d → (r : Reply) → IsIn r i.lines → (rows : List (List Value))
          → r ≡ reply.Rows rows
          → RowsClean base logs [] d (reply.Rows rows)
      by (turn table most) b t r m rows q =
          absurd (false≢true (subst (λ z. IsTrue (is_of_turn z)) q (in_Each (λ z. IsTrue (is_of_turn z)) r i.lines m b)))
      by (sql st) b t r m rows q = absurd t
      by tending b t r m rows q = absurd t
