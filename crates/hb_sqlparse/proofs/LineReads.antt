-- Lines are read, where expressions and conditions are.
use Rattle.std.proofs.Common.{◌≡◌, ℕ, ◌≤◌, Bool, true, false, if◌then◌else◌, List, [], ◌∷◌, Option, Some, option_map, refl, sym, ap, ◌∙◌, subst}
use Rattle.hb_model.specs.declared.line.Work.{Work}
use Rattle.hb_model.specs.declared.script.Item.{Item}
use Rattle.hb_model.specs.declared.script.Item.TheVariants as item
use Rattle.hb_sqltoken.specs.declared.token.Token.{Token}
use Rattle.hb_sqltoken.specs.declared.token.Token.TheVariants as token
use Rattle.hb_sqltoken.specs.declared.token.Word.{Word}
use Rattle.hb_sqltoken.specs.declared.token.Word.TheVariants as word
use Rattle.hb_sqlcond.specs.Grammar.{IsExpr, IsPred}
use Rattle.hb_sqlcond.specs.ExprSteps.{start_expr, step_expr, whole_expr}
use Rattle.hb_sqlcond.specs.PredSteps.{start_pred, step_pred, whole_pred}
use Rattle.hb_sqlcond.specs.Runs.{Leads, Finds, Completes, Reads, in_expr, in_pred}
use Rattle.hb_sqlsteps.specs.declared.marks.Mark.TheVariants as mark
use Rattle.hb_sqlsteps.specs.declared.position.Position.{Position}
use Rattle.hb_sqlsteps.specs.declared.position.Position.TheVariants as position
use Rattle.hb_sqlsteps.specs.declared.line.Stop.{Stop}
use Rattle.hb_sqlsteps.specs.declared.line.Stop.TheVariants as stop_at
use Rattle.hb_sqlsteps.specs.declared.line.Line.{Line}
use Rattle.hb_sqlsteps.specs.declared.line.Line.TheVariants as line
use Rattle.hb_sqlparse.specs.Keywords.{AREA, AT, BARRIER, GIVE, START, STEP, STOP, SYNC}
use Rattle.hb_sqlparse.specs.Works.{IsWork}
use Rattle.hb_sqlsteps.specs.Kept.{most_steps}
use Rattle.hb_sqlparse.specs.Grammar.{IsEnd, bare, closed, IsLine, given as is_given, held as is_held, step, stop, arm_log, arm_area, start, sync, barrier}
use Rattle.hb_sqlsteps.specs.Positions.{step_position, whole_position}
use Rattle.hb_sqlsteps.specs.LineSteps.{line_word, start_line, step_stop, given, in_work, step_line, whole_stop, whole_line}
use Rattle.hb_sqlparse.specs.Laws.{ReadsLines}
use Rattle.hb_sqlparse.proofs.Takes.{some_is, none_is, found, mapped, word_split, word_back, mark_split, mark_back, name_back, number_back, number_takes}
use Rattle.hb_sqlparse.proofs.Going.{inside, find_here, find_next, find_then, back_along, ends_here, ends_next, ends_then}
use Rattle.hb_sqlparse.proofs.WorkComplete.{work_found}
use Rattle.hb_sqlparse.proofs.WorkSound.{work_sound}
use Rattle.hb_sqlparse.proofs.WorkEnds.{work_ends}
use Rattle.hb_sqlparse.proofs.Semicolons.{not_semicolon}

abbrev Found : Line → Item → List Token → List Token → Type 0
Found = Finds step_line whole_line

-- ---- what the grammar derives is found

at_end : (i : Item) → Found (line.Ended i) i [] []
at_end i = find_here (line.Ended i) i [] refl

end_found : (session : List ℕ) (held : Bool) (p : Position) (w : Work) (r : List Token) → whole_position p ≡ Some w → IsEnd r → Found (line.Work session held p) (item.Give session w held) r []
end_found session held p w r h bare = find_here (line.Work session held p) (item.Give session w held) [] (ap (option_map (λ w. item.Give session w held)) h)
end_found session held p w r h closed = find_next (ap (λ o. option_map line.Ended (option_map (λ w. item.Give session w held) o)) h) (at_end (item.Give session w held))

armed : (node : List ℕ) (area : Bool) (k : ℕ) → 1 ≤ k → k ≤ most_steps → Found (line.Stop (stop_at.At node area)) (item.Arm node area k) (token.Number k ∷ []) []
armed node area k low high = find_next (ap (option_map (λ k. line.Ended (item.Arm node area k))) (number_takes most_steps k low high)) (at_end (item.Arm node area k))

otherwise : {A : Type 0} (b : Bool) (p q : Option A) (y : A) → b ≡ false → q ≡ Some y → (if b then p else q) ≡ Some y
otherwise true p q y h e = absurd (cc)
otherwise false p q y h e = e

module _ (ex : Reads start_expr step_expr whole_expr in_expr IsExpr) (pr : Reads start_pred step_pred whole_pred in_pred IsPred) where
  work_step : (session : List ℕ) (held : Bool) (p : Position) (t : Token) (q : Position) → step_position p t ≡ Some q → step_line (line.Work session held p) t ≡ Some (line.Work session held q)
  work_step session held p t q h = otherwise _ _ _ (line.Work session held q) (not_semicolon ex pr p t q h) (ap (option_map (line.Work session held)) h)

  in_the_work : (session : List ℕ) (held : Bool) {p q : Position} {s r : List Token} → Leads step_position p s q r → Leads step_line (line.Work session held p) s (line.Work session held q) r
  in_the_work session held x = inside (line.Work session held) (work_step session held) x

  gift : (session : List ℕ) (held : Bool) (w : Work) (s r : List Token) → IsWork w s r → IsEnd r → Found (line.Work session held position.Start) (item.Give session w held) s []
  gift session held w s r i e = let x = work_found ex pr i in find_then (in_the_work session held x.leads) (end_found session held x.last w r x.is e)

  line_found : (i : Item) (s : List Token) → IsLine i s → Found line.Start i s []
  line_found i s (is_given {session = session} {work = w} {s = m} {r = r} x e) = find_next refl (find_next refl (gift session false w m r x e))
  line_found i s (is_held {session = session} {work = w} {s = m} {r = r} x e) = find_next refl (find_next refl (find_next refl (gift session true w m r x e)))
  line_found i s (step {session = session} {n = n} low high) =
      find_next refl (find_next refl (find_next (ap (option_map (λ n. line.Ended (item.Step session n))) (number_takes most_steps n low high)) (at_end (item.Step session n))))
  line_found i s (stop {node = node}) = find_next refl (find_next refl (find_here (line.Stop (stop_at.Named node)) (item.Stop node) [] refl))
  line_found i s (arm_log {node = node} {k = k} low high) = find_next refl (find_next refl (find_next refl (armed node false k low high)))
  line_found i s (arm_area {node = node} {k = k} low high) = find_next refl (find_next refl (find_next refl (find_next refl (armed node true k low high))))
  line_found i s (start {node = node}) = find_next refl (find_next refl (at_end (item.Start node)))
  line_found i s (sync {node = node}) = find_next refl (find_next refl (at_end (item.Sync node)))
  line_found i s barrier = find_next refl (at_end item.Barrier)

  -- ---- what is found is derived by the grammar

  record WorkRest (session : List ℕ) (held : Bool) (p : Position) (i : Item) (s : List Token) : Type 0 where
    work : Work
    behind : List Token
    finds : Finds step_position whole_position p work s behind
    end : IsEnd behind
    is : item.Give session work held ≡ i

  abbrev named : List ℕ → Bool → List Token → List Token
  named session false s = token.Name session ∷ s
  named session true s = GIVE ∷ token.Name session ∷ s

  abbrev at_word : Bool → List Token → List Token
  at_word false s = AT ∷ s
  at_word true s = AREA ∷ AT ∷ s

  abbrev stop_rest : Stop → Item → List Token → Type 0
  stop_rest stop_at.Start i s = IsLine i (STOP ∷ s)
  stop_rest (stop_at.Named node) i s = IsLine i (STOP ∷ token.Name node ∷ s)
  stop_rest (stop_at.Area node) i s = IsLine i (STOP ∷ token.Name node ∷ AREA ∷ s)
  stop_rest (stop_at.At node area) i s = IsLine i (STOP ∷ token.Name node ∷ at_word area s)

  abbrev LineRest : Line → Item → List Token → Type 0
  LineRest line.Start i s = IsLine i s
  LineRest line.Give i s = IsLine i (GIVE ∷ s)
  LineRest (line.Named session held) i s = IsLine i (named session held s)
  LineRest (line.Work session held p) i s = WorkRest session held p i s
  LineRest line.Step i s = IsLine i (STEP ∷ s)
  LineRest (line.StepOf session) i s = IsLine i (STEP ∷ token.Name session ∷ s)
  LineRest (line.Stop p) i s = stop_rest p i s
  LineRest line.Up i s = IsLine i (START ∷ s)
  LineRest line.Sync i s = IsLine i (SYNC ∷ s)
  LineRest (line.Ended v) i s = (v ≡ i) × (s ≡ [])

  abbrev Back : Line → Token → Line → Type 0
  Back l t m = (i : Item) (s : List Token) → LineRest m i s → LineRest l i (t ∷ s)

  ended_rest : (front : List Token → List Token) (v : Item) → IsLine v (front []) → (i : Item) (s : List Token) → (v ≡ i) × (s ≡ []) → IsLine i (front s)
  ended_rest front v f i s x = subst (λ i. IsLine i (front s)) x.0 (subst (λ (l : List Token). IsLine v (front l)) (sym x.1) f)

  given_is : (session : List ℕ) (held : Bool) (i : Item) (s : List Token) → WorkRest session held position.Start i s → IsLine i (named session held (token.Colon ∷ s))
  given_is session false i s x = subst (λ i. IsLine i (token.Name session ∷ token.Colon ∷ s)) x.is (is_given (work_sound ex pr x.work s x.behind x.finds) x.end)
  given_is session true i s x = subst (λ i. IsLine i (GIVE ∷ token.Name session ∷ token.Colon ∷ s)) x.is (is_held (work_sound ex pr x.work s x.behind x.finds) x.end)

  armed_is : (node : List ℕ) (area : Bool) (k : ℕ) → 1 ≤ k → k ≤ most_steps → IsLine (item.Arm node area k) (STOP ∷ token.Name node ∷ at_word area (token.Number k ∷ []))
  armed_is node true k low high = arm_area low high
  armed_is node false k low high = arm_log low high

  stop_back : (p : Stop) (t : Token) (m : Line) → step_stop p t ≡ Some m → Back (line.Stop p) t m
  stop_back stop_at.Start t m h = name_back (Back (line.Stop stop_at.Start)) t _ m h (λ n i s x. x)
  stop_back (stop_at.Named node) t m h =
      let P = line.Stop (stop_at.Named node) in
      word_split (λ t. Back P t m) word.Area t _ _ m h
      (λ e. subst (Back P AREA) (some_is e) (λ i s x. x))
      (λ e. word_back (Back P) word.At t _ m e (λ i s x. x))
  stop_back (stop_at.Area node) t m h = word_back (Back (line.Stop (stop_at.Area node))) word.At t _ m h (λ i s x. x)
  stop_back (stop_at.At node area) t m h =
      number_back (Back (line.Stop (stop_at.At node area))) most_steps t _ m h
      (λ k low high. ended_rest (λ (s : List Token). STOP ∷ token.Name node ∷ at_word area (token.Number k ∷ s)) (item.Arm node area k) (armed_is node area k low high))

  first_back : (v : Word) (m : Line) → line_word v ≡ Some m → Back line.Start (token.Word v) m
  first_back word.Give m h = subst (Back line.Start (token.Word word.Give)) (some_is h) (λ i s x. x)
  first_back word.Step m h = subst (Back line.Start (token.Word word.Step)) (some_is h) (λ i s x. x)
  first_back word.Stop m h = subst (Back line.Start (token.Word word.Stop)) (some_is h) (λ i s x. x)
  first_back word.Start m h = subst (Back line.Start (token.Word word.Start)) (some_is h) (λ i s x. x)
  first_back word.Sync m h = subst (Back line.Start (token.Word word.Sync)) (some_is h) (λ i s x. x)
  first_back word.Barrier m h = subst (Back line.Start (token.Word word.Barrier)) (some_is h) (ended_rest (λ (s : List Token). BARRIER ∷ s) item.Barrier barrier)
  first_back _ m h = absurd (none_is h)

  start_back : (t : Token) (m : Line) → start_line t ≡ Some m → Back line.Start t m
  start_back (token.Name n) m h = subst (Back line.Start (token.Name n)) (some_is h) (λ i s x. x)
  start_back (token.Word v) m h = first_back v m h
  start_back _ m h = absurd (none_is h)

  work_back : (session : List ℕ) (held : Bool) (p : Position) (t : Token) (m : Line) → in_work session held p t ≡ Some m → Back (line.Work session held p) t m
  work_back session held p t m h =
      mark_split (λ t. Back (line.Work session held p) t m) mark.Semicolon t _ _ m h
      (λ e. mapped (Back (line.Work session held p) token.Semicolon) line.Ended (given session held p) m e
      (λ v f i s x. (let y = found (λ w. item.Give session w held) (whole_position p) v f in
      record { work = y.0; behind = token.Semicolon ∷ s; finds = find_here p y.0 (token.Semicolon ∷ s) y.1; end = subst (λ (l : List Token). IsEnd (token.Semicolon ∷ l)) (sym x.1) closed; is = y.2 ∙ x.0 })))
      (λ e. mapped (Back (line.Work session held p) t) (line.Work session held) (step_position p t) m e
      (λ q f i s x. record { work = x.work; behind = x.behind; finds = find_next f x.finds; end = x.end; is = x.is }))

  back : (l : Line) (t : Token) (m : Line) (s : List Token) (i : Item) → step_line l t ≡ Some m → LineRest m i s → LineRest l i (t ∷ s)
  back line.Start t m s i h x = start_back t m h i s x
  back line.Give t m s i h x = name_back (Back line.Give) t _ m h (λ n i s x. x) i s x
  back (line.Named session held) t m s i h x = mark_back (Back (line.Named session held)) mark.Colon t _ m h (given_is session held) i s x
  back (line.Work session held p) t m s i h x = work_back session held p t m h i s x
  back line.Step t m s i h x = name_back (Back line.Step) t _ m h (λ n i s x. x) i s x
  back (line.StepOf session) t m s i h x =
      number_back (Back (line.StepOf session)) most_steps t _ m h
      (λ n low high. ended_rest (λ (s : List Token). STEP ∷ token.Name session ∷ token.Number n ∷ s) (item.Step session n) (step low high)) i s x
  back (line.Stop p) t m s i h x = stop_back p t m h i s x
  back line.Up t m s i h x = name_back (Back line.Up) t _ m h (λ n. ended_rest (λ (s : List Token). START ∷ token.Name n ∷ s) (item.Start n) start) i s x
  back line.Sync t m s i h x = name_back (Back line.Sync) t _ m h (λ n. ended_rest (λ (s : List Token). SYNC ∷ token.Name n ∷ s) (item.Sync n) sync) i s x
  back (line.Ended v) t m s i h x = absurd (none_is h)

  stop_base : (p : Stop) (i : Item) → whole_stop p ≡ Some i → LineRest (line.Stop p) i []
  stop_base (stop_at.Named node) i h = subst (λ i. IsLine i (STOP ∷ token.Name node ∷ [])) (some_is h) stop
  stop_base _ i h = absurd (none_is h)

  base : (l : Line) (i : Item) → whole_line l ≡ Some i → LineRest l i []
  base (line.Work session held p) i h =
      let y = found (λ w. item.Give session w held) (whole_position p) i h in
      record { work = y.0; behind = []; finds = find_here p y.0 [] y.1; end = bare; is = y.2 }
  base (line.Stop p) i h = stop_base p i h
  base (line.Ended v) i h = (some_is h, refl)
  base _ i h = absurd (none_is h)

  line_sound : (i : Item) (s : List Token) → Found line.Start i s [] → IsLine i s
  line_sound i s f = back_along (λ l s. LineRest l i s) (λ l t m s h x. back l t m s i h x) f.leads (base f.last i f.is)

  -- ---- each place can be completed

  given_ends : (session : List ℕ) (held : Bool) (p : Position) → Completes step_line whole_line (line.Work session held p)
  given_ends session held p =
      let e = work_ends ex pr p in
      ends_then (in_the_work session held e.finds.leads) (ends_here (line.Work session held e.finds.last) _ (ap (option_map (λ w. item.Give session w held)) e.finds.is))

  ended_ends : (i : Item) → Completes step_line whole_line (line.Ended i)
  ended_ends i = ends_here (line.Ended i) i refl

  stop_ends : (p : Stop) → Completes step_line whole_line (line.Stop p)
  stop_ends stop_at.Start = ends_next (token.Name (97 ∷ [])) refl (ends_here (line.Stop (stop_at.Named (97 ∷ []))) (item.Stop (97 ∷ [])) refl)
  stop_ends (stop_at.Named node) = ends_here (line.Stop (stop_at.Named node)) (item.Stop node) refl
  stop_ends (stop_at.Area node) = ends_next AT refl (ends_next (token.Number 1) refl (ended_ends (item.Arm node true 1)))
  stop_ends (stop_at.At node area) = ends_next (token.Number 1) refl (ended_ends (item.Arm node area 1))

  line_ends : (l : Line) → Completes step_line whole_line l
  line_ends line.Start = ends_next BARRIER refl (ended_ends item.Barrier)
  line_ends line.Give = ends_next (token.Name (97 ∷ [])) refl (ends_next token.Colon refl (given_ends (97 ∷ []) true position.Start))
  line_ends (line.Named session held) = ends_next token.Colon refl (given_ends session held position.Start)
  line_ends (line.Work session held p) = given_ends session held p
  line_ends line.Step = ends_next (token.Name (97 ∷ [])) refl (ends_next (token.Number 1) refl (ended_ends (item.Step (97 ∷ []) 1)))
  line_ends (line.StepOf session) = ends_next (token.Number 1) refl (ended_ends (item.Step session 1))
  line_ends (line.Stop p) = stop_ends p
  line_ends line.Up = ends_next (token.Name (97 ∷ [])) refl (ended_ends (item.Start (97 ∷ [])))
  line_ends line.Sync = ends_next (token.Name (97 ∷ [])) refl (ended_ends (item.Sync (97 ∷ [])))
  line_ends (line.Ended i) = ended_ends i

  pub reads_lines : ReadsLines
  reads_lines = record { complete = line_found; sound = line_sound; completes = line_ends }
