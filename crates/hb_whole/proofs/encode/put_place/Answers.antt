use Rattle.std.proofs.Common.{◌≡◌, ◌∙◌, ◌++◌, ap, rules}
use Rattle.std.proofs.lemmas.Int.{to_z-of_z}
use Rattle.std.specs.Int.{w64, cast_signed, cast_unsigned}
use Rattle.std.specs.Int.RustNames.{FitsSigned}
use Rattle.hb_types.specs.Numbers.{two, signed_eight}
use Rattle.hb_types.specs.Records.{space_bytes}
use Rattle.hb_whole.proofs.Encoded.{three_pieces}
use Rattle.hb_whole.proofs.encode.put_place.Goals as goal

pub returns : goal.returns
returns c =
    let fits : FitsSigned w64 c.args.place.key = search rules in
    let same : cast_signed w64 (cast_unsigned w64 c.args.place.key) ≡ c.args.place.key = to_z-of_z w64 c.args.place.key fits in
    three_pieces c.args.out.now.items (space_bytes c.args.place.space) (two c.args.place.group) (signed_eight c.args.place.key) c.put_space.new.out.items c.put_two.new.out.items c.put_key.new.out.items
    c.in_ok-put_space.ensures c.in_ok-put_two.ensures (c.in_ok-put_key.ensures ∙ ap (λ k. c.put_two.new.out.items ++ signed_eight k) same)
