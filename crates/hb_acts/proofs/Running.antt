-- A script on its way, and where it stops.
use Rattle.std.proofs.Common.{◌≡◌, ◌≢◌, ◌⊎◌, inl, inr, ⊎_elim, ℕ, ◌+◌, List, [], ◌∷◌, ◌++◌, length, refl, sym, ◌∙◌, ap, subst, arith, length-append}
use Rattle.std.specs.Prelude.{Some, None, IfSome, IfOk, IfErr, OnOk, OnErr, Result, Ok, Err}
use Rattle.std.specs.declared.option.Option.{Option}
use Rattle.std.proofs.lemmas.List.{nil_from_length}
use Rattle.hb_edge.specs.Streams.{with_end, with_front}
use Rattle.hb_lines.specs.declared.said.Said.{Said}
use Rattle.hb_lines.specs.Lines.{lines_of}
use Rattle.hb_lines.specs.Next.{NextLine, IsTooLong}
use Rattle.hb_stepper.specs.Running.{Running}
use Rattle.hb_acts.specs.declared.stop.Stop.{Stop}
use Rattle.hb_acts.specs.declared.stop.Stop.TheVariants.{Source, Line}
use Rattle.hb_acts.specs.Acts.{Act, does, resumes, closes, ends, Reached, Halted}
use Rattle.hb_acts.specs.Outside.{Outside}
use Rattle.hb_acts.specs.Runs.{line_acts, script_acts, BeginsLong, Finishes, StopsAt}
use Rattle.hb_acts.proofs.Chains.{halted_reached, halted_then, line_acts-append, reached_none, reached_then}
use Rattle.hb_acts.proofs.LinesSaid.{SaidSoFar, SaidTo, for_said, no_lines, said_all, said_none, said_on}
use Rattle.hb_acts.proofs.PutTexts.{with_end_nothing}

-- these lines were done, and all that they gave was put
pub record OnItsWay (origin : Running) (all rest held : Option (List ℕ)) (number : ℕ) (now : Running) (output : Option (List ℕ)) : Type 0 where
  pub saids : List Said
  pub said : SaidSoFar all rest saids
  pub count : number ≡ length saids
  pub reached : Reached origin (line_acts 1 saids) held now output

pub way_start : (origin : Running) (all rest held : Option (List ℕ)) → rest ≡ all → OnItsWay origin all rest held 0 origin held
way_start origin all rest held same = record { saids = []; said = said_none all rest same; count = refl; reached = reached_none origin held held (with_end_nothing held) }

-- the acts of one line more
acts_on : (saids : List Said) (said : Said) (number n : ℕ) → number ≡ length saids → n ≡ number + 1 → line_acts 1 saids ++ does n said ∷ resumes ∷ [] ≡ line_acts 1 (saids ++ said ∷ [])
acts_on saids said number n count next = let place : n ≡ 1 + length saids = omega (arith, count, next) in sym (line_acts-append 1 n saids (said ∷ []) place)

pub way_on : (origin : Running) (all rest more held : Option (List ℕ)) (number n : ℕ) (now later : Running) (output output' : Option (List ℕ)) (said : Said) → OnItsWay origin all rest held number now output → NextLine (Some said) rest more
    → n ≡ number + 1 → Reached now (does n said ∷ resumes ∷ []) output later output' → OnItsWay origin all more held n later output'
way_on origin all rest more held number n now later output output' said way next is reached = record {
  saids = way.saids ++ said ∷ [];
  said = said_on all rest more way.saids said way.said next;
  count = omega (arith, is, way.count, length-append way.saids (said ∷ []));
  reached = subst (λ (acts : List Act). Reached origin acts held later output') (acts_on way.saids said number n way.count is) (reached_then origin now later (line_acts 1 way.saids) (does n said ∷ resumes ∷ []) held output output' way.reached reached);
}

begins_long : (left : List ℕ) → IsTooLong left → BeginsLong (lines_of left)
begins_long left long = (long.line, long.others, long.lines, long.long)

-- not between two lines
abbrev pub IsWithin : Stop → Type 0
IsWithin stop = (stop ≢ Source) × (stop ≢ Line)

not_between : (stop : Stop) {X : Type 0} → IsWithin stop → (stop ≡ Source) ⊎ (stop ≡ Line) → X
not_between stop within (inl is) = absurd (within.0 is)
not_between stop within (inr is) = absurd (within.1 is)

module _ (origin : Running) (before after : Outside) where
  -- it stopped between two lines
  pub stops_between : (rest : Option (List ℕ)) (number : ℕ) (now : Running) (stop : Stop) → OnItsWay origin before.input rest before.output number now after.output → (stop ≡ Line → IfSome rest IsTooLong) → IfSome before.input (StopsAt origin now before after stop)
  stops_between rest number now stop way long = for_said before.input rest way.saids (StopsAt origin now before after stop) way.said (λ input left is to. record {
    read = to.lines;
    others = lines_of left;
    split = to.split;
    saids = way.saids;
    says = to.says;
    halted = inl (halted_reached origin now (line_acts 1 way.saids) before.output after.output way.reached);
    whole = λ between. way.reached;
    long = λ line. let P : Option (List ℕ) → Type 0 = λ o. IfSome o IsTooLong in begins_long left (subst P is (long line));
  })

  -- it stopped while a line was done
  pub stops_within : (rest more : Option (List ℕ)) (number n : ℕ) (now end : Running) (output : Option (List ℕ)) (said : Said) (stop : Stop) → OnItsWay origin before.input rest before.output number now output → NextLine (Some said) rest more
      → n ≡ number + 1 → Halted now (does n said ∷ resumes ∷ []) output end after.output → IsWithin stop → IfSome before.input (StopsAt origin end before after stop)
  stops_within rest more number n now end output said stop way next is halted within =
      let saids : List Said = way.saids ++ said ∷ [] in
      let halts : Halted origin (line_acts 1 saids) before.output end after.output =
      subst (λ (acts : List Act). Halted origin acts before.output end after.output) (acts_on way.saids said number n way.count is) (halted_then origin now end (line_acts 1 way.saids) (does n said ∷ resumes ∷ []) before.output output after.output way.reached halted) in
      for_said before.input more saids (StopsAt origin end before after stop) (said_on before.input rest more way.saids said way.said next) (λ input left is_left to. record {
        read = to.lines;
        others = lines_of left;
        split = to.split;
        saids = saids;
        says = to.says;
        halted = inl halts;
        whole = λ between. not_between stop within between;
        long = λ line. absurd (within.1 line);
      })

  ended_source : (reader : List ℕ) (input : Option (List ℕ)) → with_front reader input ≡ Some [] → input ≡ Some []
  ended_source reader None is = absurd (cc)
  ended_source reader (Some bytes) is =
      let all : reader ++ bytes ≡ [] = cc in
      let none : length bytes ≡ 0 = omega (arith, ap length all, length-append reader bytes) in
      ap (λ (l : List ℕ). Some l) (nil_from_length bytes none)

  -- all lines were done: nothing is left
  nothing_left : (rest more : Option (List ℕ)) (left : List ℕ) → NextLine None rest more → rest ≡ Some left → (left ≡ []) × (more ≡ Some [])
  nothing_left rest more left next is = let P : Option (List ℕ) → Type 0 = λ o. IfSome o (λ input. (input ≡ []) × (more ≡ Some [])) in subst P is next

  -- the acts of the whole script
  acts_end : (saids : List Said) (number : ℕ) → number ≡ length saids → line_acts 1 saids ++ closes ∷ ends number ∷ [] ≡ script_acts saids
  acts_end saids number is = ap (λ (n : ℕ). line_acts 1 saids ++ closes ∷ ends n ∷ []) is

  module _ (rest : Option (List ℕ)) (reader : List ℕ) (number : ℕ) (now : Running) (output : Option (List ℕ)) (way : OnItsWay origin before.input rest before.output number now output)
      (next : NextLine None rest (with_front reader after.input)) where
    finishes : (end : Running) → Reached now (closes ∷ ends number ∷ []) output end after.output → IfSome before.input (Finishes origin end before after)
    finishes end reached = for_said before.input rest way.saids (Finishes origin end before after) way.said (λ input left is to.
        let done = nothing_left rest (with_front reader after.input) left next is in
        record {
          saids = way.saids;
          says = said_all input way.saids (subst (λ (l : List ℕ). SaidTo input l way.saids) done.0 to);
          reached = subst (λ (acts : List Act). Reached origin acts before.output end after.output) (acts_end way.saids number way.count)
              (reached_then origin now end (line_acts 1 way.saids) (closes ∷ ends number ∷ []) before.output output after.output way.reached reached);
          ended = ended_source reader after.input done.1;
        })

    stops_ending : (end : Running) (stop : Stop) → Halted now (closes ∷ ends number ∷ []) output end after.output → IsWithin stop → IfSome before.input (StopsAt origin end before after stop)
    stops_ending end stop halted within = for_said before.input rest way.saids (StopsAt origin end before after stop) way.said (λ input left is to.
        let done = nothing_left rest (with_front reader after.input) left next is in
        record {
          read = to.lines;
          others = lines_of left;
          split = to.split;
          saids = way.saids;
          says = to.says;
          halted = inr (
            ap lines_of done.0 ∙ no_lines,
            subst (λ (acts : List Act). Halted origin acts before.output end after.output) (acts_end way.saids number way.count)
                (halted_then origin now end (line_acts 1 way.saids) (closes ∷ ends number ∷ []) before.output output after.output way.reached halted),
          );
          whole = λ between. not_between stop within between;
          long = λ line. absurd (within.1 line);
        })

    pub done_last : (end : Running) (result : Result (Unit {0}) Stop) → OnOk result (Reached now (closes ∷ ends number ∷ []) output end after.output) → IfOk result (λ _. IfSome before.input (Finishes origin end before after))
    done_last end (Ok x) reached = finishes end reached
    done_last end (Err stop) reached = tt

    pub stopped_last : (end : Running) (result : Result (Unit {0}) Stop) → OnErr result (Halted now (closes ∷ ends number ∷ []) output end after.output) → IfErr result IsWithin → IfErr result (λ stop. IfSome before.input (StopsAt origin end before after stop))
    stopped_last end (Ok x) halted within = tt
    stopped_last end (Err stop) halted within = stops_ending end stop halted within
