-- An image has one valid point.
use Rattle.std.proofs.Common.{◌≡◌, ℕ, List, [], ◌∷◌, length, take, drop, refl, sym, ◌∙◌, ap, subst, arith, Some, None, Option}
use Rattle.std.specs.Prelude.{unwrap_or}
use Rattle.std.proofs.lemmas.List.{drop_at}
use Rattle.std.proofs.lemmas.List.Elements.{recursion_from_All}
use Rattle.hb_codec.specs.Reading.{OneForm}
use Rattle.hb_codec.specs.Spellings.{IsChangeOf}
use Rattle.hb_edge.specs.Images.{Image}
use Rattle.hb_types.specs.declared.change.Stored.{Stored}
use Rattle.hb_types.specs.Lists.{Each}
use Rattle.hb_types.specs.Records.{change_bytes}
use Rattle.hb_store.specs.Meanings.{IsStored}
use Rattle.hb_disks.specs.Points.{Point}
use Rattle.hb_disks.specs.WholeImage.{IsPointAt, PointIs, as_change, image_bytes}
use Rattle.hb_whole.specs.declared.header.Header.{Header}
use Rattle.hb_whole.proofs.Decoding.{stored_eq}
use Rattle.hb_whole.proofs.Encoded.{bytes_of}
use Rattle.hb_whole.proofs.Finding.{behind_gate, header_of, numbers_of, one_header, some_none}

same_rows : OneForm IsChangeOf → (xs ys : List Stored) → Each IsStored xs → Each IsStored ys → bytes_of xs ≡ bytes_of ys → xs ≡ ys
same_rows one [] [] f g e = refl
same_rows one [] (y ∷ ys) f g e = absurd (omega (arith, ap length e))
same_rows one (x ∷ xs) [] f g e = absurd (omega (arith, ap length e))
same_rows one (x ∷ xs) (y ∷ ys) f g e =
    let h = one (as_change x) (as_change y) (change_bytes (as_change x)) (change_bytes (as_change y)) (bytes_of xs) (bytes_of ys) (record { fits = f.0; spelled = refl }) (record { fits = g.0; spelled = refl }) e in
    let n = length (change_bytes (as_change x)) in
    let tail : bytes_of xs ≡ bytes_of ys = sym (drop_at (change_bytes (as_change x)) (bytes_of xs) (length (change_bytes (as_change x))) refl) ∙ ap (drop (length (change_bytes (as_change x)))) e
    ∙ drop_at (change_bytes (as_change y)) (bytes_of ys) (length (change_bytes (as_change x))) (ap length (sym h.0)) in
    let rest = same_rows one xs ys f.1 g.1 tail in
    let first = stored_eq x y h.1 in
    λ i. first i ∷ rest i

one_at : OneForm IsChangeOf → (image : Image) (k a b : ℕ) (p q : Point) → IsPointAt image p k a → IsPointAt image q k b → p ≡ q
one_at one image k a b p q x y =
    let same : header_of p a ≡ header_of q b = one_header (header_of p a) (header_of q b) (numbers_of image k p a x) (numbers_of image k q b y)
    (sym (behind_gate image k p a x.headed) ∙ behind_gate image k q b y.headed) in
    let bytes : image_bytes p.rows ≡ image_bytes q.rows = sym x.imaged ∙ ap (λ (h : Header). take h.length (drop h.place image)) same ∙ y.imaged in
    let rows : p.rows ≡ q.rows = same_rows one p.rows q.rows (recursion_from_All IsStored p.rows x.rows_are_rows) (recursion_from_All IsStored q.rows y.rows_are_rows) (ap (drop 4) bytes) in
    λ i. record { sequence = (same i).sequence; from = (same i).from; floor = (same i).floor; rows = rows i }

pub one_point : OneForm IsChangeOf → (image : Image) (p q : Option Point) → PointIs image p → PointIs image q → p ≡ q
one_point one image None None x y = refl
one_point one image None (Some q) x y = absurd (some_none y.0 (sym y.2 ∙ x))
one_point one image (Some p) None x y = absurd (some_none x.0 (sym x.2 ∙ y))
one_point one image (Some p) (Some q) x y =
    let here : y.0 ≡ x.0 = ap (λ (o : Option ℕ). unwrap_or o 0) (sym y.2 ∙ x.2) in
    ap Some (one_at one image x.0 x.1 y.1 p q x.3 (subst (λ (k : ℕ). IsPointAt image q k y.1) here y.3))
