-- What a source in memory means.
use Rattle.std.specs.Prelude.{ℕ, ◌-◌, List, length, drop, Option, Some}
use Rattle.hb_memdisk.specs.declared.source.MemSource.{MemSource}

-- the bytes that are left
abbrev pub rest_of : MemSource → List ℕ
rest_of source = drop source.given source.bytes

abbrev pub told_of : MemSource → Option (List ℕ)
told_of source = Some (rest_of source)

-- it can still give as many bytes as are left
abbrev pub bound_of : MemSource → ℕ
bound_of source = length source.bytes - source.given
