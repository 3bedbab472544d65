-- The first refusal of a draft, test by test.
use Rattle.std.proofs.Common.{◌≡◌, ℕ, suc, Bool, true, false, ◌||◌, List, [], ◌∷◌, ◌++◌, length, map, Option, Some, None, refl, ap, sym, ◌∙◌}
use Rattle.std.specs.Prelude.{cond, drop, find, is_some, nat_le, nat_lt, take}
use Rattle.std.specs.List.{list_any}
use Rattle.std.specs.Option.{option_or}
use Rattle.std.specs.Str.{bytes_eq}
use Rattle.hb_model.specs.declared.reply.Reply.{Reply}
use Rattle.hb_model.specs.declared.reply.Reply.TheVariants as reply
use Rattle.hb_model.specs.declared.table.Table.{Table}
use Rattle.hb_model.specs.Define.{create_table_refusals}
use Rattle.hb_model.specs.Refusals.{first_refusal}
use Rattle.hb_model.specs.State.{Area, table_named}
use Rattle.hb_model.specs.Told.{Found}
use Rattle.hb_definerows.specs.DefineRows.{state_told}
use Rattle.hb_definerows.specs.declared.create_table.Draft.{Draft}

refused_first : (a : Bool) (r : Reply) (rs : List (Bool × Reply)) → a ≡ true → Some r ≡ first_refusal ((a, r) ∷ rs)
refused_first a r rs is = sym (ap (λ (b : Bool). first_refusal ((b, r) ∷ rs)) is)

refused_later : (a : Bool) (r : Reply) (rs : List (Bool × Reply)) (o : Option Reply) → a ≡ false → o ≡ first_refusal rs → o ≡ first_refusal ((a, r) ∷ rs)
refused_later a r rs o is later = later ∙ sym (ap (λ (b : Bool). first_refusal ((b, r) ∷ rs)) is)

some_first : {A : Type 0} (b rest : Bool) (x : A) (o : Option A) → is_some o ≡ rest → is_some (cond b (Some x) o) ≡ (b || rest)
some_first true rest x o is = refl
some_first false rest x o is = is

-- whether there is a table of a name
has_name : (tables : List Found) (name : List ℕ) → is_some (find (λ (t : Table). bytes_eq t.name name) (map (λ (f : Found). f.1) tables)) ≡ list_any (λ (f : Found). bytes_eq f.1.name name) tables
has_name [] name = refl
has_name (f ∷ fs) name = some_first (bytes_eq f.1.name name) _ f.1 _ (has_name fs name)

abbrev refusals : List Found → List Area → Draft → List (Bool × Reply)
refusals tables areas d = create_table_refusals (state_told tables areas) d.name d.columns d.key d.areas

-- whether there are too many tables, columns or areas
abbrev too_many : ℕ → Draft → Bool
too_many n d = nat_le 64 n || (nat_lt 16 (length d.columns) || nat_lt 16 (length d.areas))

map_counted : (tables : List Found) → length (map (λ (f : Found). f.1) tables) ≡ length tables
map_counted [] = refl
map_counted (f ∷ fs) = ap suc (map_counted fs)

counted : (tables : List Found) (d : Draft) → too_many (length (map (λ (f : Found). f.1) tables)) d ≡ too_many (length tables) d
counted tables d = ap (λ (n : ℕ). too_many n d) (map_counted tables)

abbrev early : List Found → Draft → Option Reply
early tables d = first_refusal (take 5 (refusals tables [] d))

abbrev named : List Found → Draft → Bool
named tables d = list_any (λ (f : Found). bytes_eq f.1.name d.name) tables

abbrev there : List Found → Draft → Bool
there tables d = is_some (table_named (state_told tables []) d.name)

abbrev many : List Found → Draft → Bool
many tables d = too_many (length (map (λ (f : Found). f.1) tables)) d

pub refused_there : (tables : List Found) (d : Draft) (b : Bool) → b ≡ named tables d → b ≡ true → Some reply.TableThere ≡ early tables d
refused_there tables d b is yes_it = refused_first (there tables d) reply.TableThere (drop 1 (take 5 (refusals tables [] d))) (has_name tables d.name ∙ sym is ∙ yes_it)

pub refused_many : (tables : List Found) (d : Draft) (a b : Bool) → a ≡ named tables d → a ≡ false → b ≡ too_many (length tables) d → b ≡ true → Some reply.TooMany ≡ early tables d
refused_many tables d a b is not_it same yes_it =
    refused_later (there tables d) reply.TableThere (drop 1 (take 5 (refusals tables [] d))) (Some reply.TooMany) (has_name tables d.name ∙ sym is ∙ not_it)
    (refused_first (many tables d) reply.TooMany (drop 2 (take 5 (refusals tables [] d))) (counted tables d ∙ sym same ∙ yes_it))

pub refused_columns : (tables : List Found) (d : Draft) (a b : Bool) (o : Option Reply) → a ≡ named tables d → a ≡ false → b ≡ too_many (length tables) d → b ≡ false
    → o ≡ first_refusal (drop 2 (take 5 (refusals tables [] d))) → o ≡ early tables d
refused_columns tables d a b o is not_it same not_that rest =
    refused_later (there tables d) reply.TableThere (drop 1 (take 5 (refusals tables [] d))) o (has_name tables d.name ∙ sym is ∙ not_it)
    (refused_later (many tables d) reply.TooMany (drop 2 (take 5 (refusals tables [] d))) o (counted tables d ∙ sym same ∙ not_that) rest)

-- ---- the areas behind the rest

first_behind : (xs ys : List (Bool × Reply)) → first_refusal (xs ++ ys) ≡ option_or (first_refusal xs) (first_refusal ys)
first_behind [] ys = refl
first_behind ((b, r) ∷ xs) ys = by_test b (first_behind xs ys)
  where
    by_test : (b : Bool) → first_refusal (xs ++ ys) ≡ option_or (first_refusal xs) (first_refusal ys)
        → first_refusal ((b, r) ∷ xs ++ ys) ≡ option_or (first_refusal ((b, r) ∷ xs)) (first_refusal ys)
    by_test true rest = refl
    by_test false rest = rest

abbrev full : List Found → List Area → Draft → Option Reply
full tables areas d = first_refusal (refusals tables areas d)

full_is : (tables : List Found) (areas : List Area) (d : Draft) → full tables areas d ≡ option_or (early tables d) (first_refusal (drop 5 (refusals tables areas d)))
full_is tables areas d = first_behind (take 5 (refusals tables areas d)) (drop 5 (refusals tables areas d))

pub refused_early : (tables : List Found) (areas : List Area) (d : Draft) (o : Option Reply) (r : Reply) → o ≡ early tables d → o ≡ Some r → Some r ≡ full tables areas d
refused_early tables areas d o r is some =
    sym (full_is tables areas d ∙ ap (λ (p : Option Reply). option_or p (first_refusal (drop 5 (refusals tables areas d)))) (sym is ∙ some))

pub refused_late : (tables : List Found) (areas : List Area) (d : Draft) (o p : Option Reply) → o ≡ early tables d → o ≡ None
    → p ≡ first_refusal (drop 5 (refusals tables areas d)) → p ≡ full tables areas d
refused_late tables areas d o p is none rest =
    rest ∙ sym (full_is tables areas d ∙ ap (λ (q : Option Reply). option_or q (first_refusal (drop 5 (refusals tables areas d)))) (sym is ∙ none))
