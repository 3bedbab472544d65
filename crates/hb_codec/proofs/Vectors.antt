-- Changes and records with their bytes.
use Rattle.std.proofs.Common.{◌≡◌, pos, [], ◌∷◌, refl, codes, Some, None}
use Rattle.hb_types.specs.declared.change.Change.{Change}
use Rattle.hb_types.specs.declared.change.LogItem.TheVariants.{Prepare, Decision, Abort, Ids}
use Rattle.hb_types.specs.declared.lock.Held.{Held}
use Rattle.hb_types.specs.declared.lock.Mode.TheVariants.{IX, X}
use Rattle.hb_types.specs.declared.places.Place.{Place}
use Rattle.hb_types.specs.declared.places.Path.TheVariants.{Whole, Key}
use Rattle.hb_types.specs.declared.value.Value.TheVariants.{Int, Text}
use Rattle.hb_types.specs.Records.{change_bytes, lock_bytes, framed}
use Rattle.hb_types.specs.Rows.{row_bytes}

abbrev five : Place
five = record { space = record { area = 257; table = 1 }; group = 92; key = pos 5 }

abbrev put_five : Change
put_five = record { place = five; row = Some (row_bytes (Int (pos 5) ∷ Text (codes "e") ∷ [])) }

abbrev without_five : Change
without_five = record { place = five; row = None }

abbrev held_space : Held
held_space = record { path = Whole (record { area = 257; table = 1 }); mode = IX }

abbrev held_five : Held
held_five = record { path = Key five; mode = X }

a_change : change_bytes put_five ≡ 1 ∷ 1 ∷ 1 ∷ 0 ∷ 0x5c ∷ 0 ∷ 5 ∷ 0 ∷ 0 ∷ 0 ∷ 0 ∷ 0 ∷ 0 ∷ 0 ∷ 1 ∷ 10 ∷ 0 ∷ 1 ∷ 2 ∷ 1 ∷ 5 ∷ 0 ∷ 0 ∷ 0 ∷ 2 ∷ 1 ∷ 0x65 ∷ []
a_change = refl

a_change_without_a_row : change_bytes without_five ≡ 1 ∷ 1 ∷ 1 ∷ 0 ∷ 0x5c ∷ 0 ∷ 5 ∷ 0 ∷ 0 ∷ 0 ∷ 0 ∷ 0 ∷ 0 ∷ 0 ∷ 0 ∷ []
a_change_without_a_row = refl

a_lock_of_a_space : lock_bytes held_space ≡ 1 ∷ 1 ∷ 1 ∷ 1 ∷ 1 ∷ 0 ∷ 0 ∷ 0 ∷ 0 ∷ 0 ∷ 0 ∷ 0 ∷ 0 ∷ 0 ∷ 0 ∷ 0 ∷ []
a_lock_of_a_space = refl

a_lock_of_a_key : lock_bytes held_five ≡ 3 ∷ 4 ∷ 1 ∷ 1 ∷ 1 ∷ 0 ∷ 92 ∷ 0 ∷ 5 ∷ 0 ∷ 0 ∷ 0 ∷ 0 ∷ 0 ∷ 0 ∷ 0 ∷ []
a_lock_of_a_key = refl

a_decision : framed (Decision (record { 0 = 2 }) (record { 0 = 2 }) (record { 0 = 1 } ∷ record { 0 = 2 } ∷ []))
    ≡ 0x14 ∷ 0 ∷ 0 ∷ 0 ∷ 4 ∷ 2 ∷ 0 ∷ 0 ∷ 0 ∷ 0 ∷ 0 ∷ 0 ∷ 0 ∷ 2 ∷ 0 ∷ 0 ∷ 0 ∷ 0 ∷ 0 ∷ 0 ∷ 0 ∷ 2 ∷ 1 ∷ 2 ∷ []
a_decision = refl

an_abort : framed (Abort (record { 0 = 3 })) ≡ 9 ∷ 0 ∷ 0 ∷ 0 ∷ 3 ∷ 3 ∷ 0 ∷ 0 ∷ 0 ∷ 0 ∷ 0 ∷ 0 ∷ 0 ∷ []
an_abort = refl

reserved_numbers : framed (Ids 1000) ≡ 9 ∷ 0 ∷ 0 ∷ 0 ∷ 5 ∷ 0xe8 ∷ 3 ∷ 0 ∷ 0 ∷ 0 ∷ 0 ∷ 0 ∷ 0 ∷ []
reserved_numbers = refl

a_prepare : framed (Prepare (record { 0 = 7 }) (record { 0 = 0 }) (held_space ∷ held_five ∷ []) (put_five ∷ []))
    ≡ 84 ∷ 0 ∷ 0 ∷ 0 ∷ 1 ∷ 7 ∷ 0 ∷ 0 ∷ 0 ∷ 0 ∷ 0 ∷ 0 ∷ 0 ∷ 0 ∷ 0 ∷ 0 ∷ 0 ∷ 0 ∷ 0 ∷ 0 ∷ 0 ∷ 2 ∷ 0 ∷ 0 ∷ 0
    ∷ 1 ∷ 1 ∷ 1 ∷ 1 ∷ 1 ∷ 0 ∷ 0 ∷ 0 ∷ 0 ∷ 0 ∷ 0 ∷ 0 ∷ 0 ∷ 0 ∷ 0 ∷ 0
    ∷ 3 ∷ 4 ∷ 1 ∷ 1 ∷ 1 ∷ 0 ∷ 92 ∷ 0 ∷ 5 ∷ 0 ∷ 0 ∷ 0 ∷ 0 ∷ 0 ∷ 0 ∷ 0 ∷ 1 ∷ 0 ∷ 0 ∷ 0
    ∷ 1 ∷ 1 ∷ 1 ∷ 0 ∷ 92 ∷ 0 ∷ 5 ∷ 0 ∷ 0 ∷ 0 ∷ 0 ∷ 0 ∷ 0 ∷ 0 ∷ 1 ∷ 10 ∷ 0 ∷ 1 ∷ 2 ∷ 1 ∷ 5 ∷ 0 ∷ 0 ∷ 0 ∷ 2 ∷ 1 ∷ 101 ∷ []
a_prepare = refl
