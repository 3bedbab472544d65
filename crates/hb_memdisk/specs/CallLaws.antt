-- Laws of the calls that a disk in memory keeps: what it reads, kept or filled is one of its images, and one call more.
use Rattle.std.specs.Prelude.{◌≡◌, ℕ, ◌<◌, ◌≤◌, max, List, [], ◌∷◌, length, replicate, refl}
use Rattle.std.proofs.Common.{inl, inr, sym, subst, arith}
use Rattle.std.proofs.lemmas.List.{length-replicate}
use Rattle.hb_edge.specs.Images.{Image, patched, Torn, Same}
use Rattle.hb_edge.specs.ImageLaws.{torn_patched, torn_written, cut_taken, torn_undone, cut_undone}
use Rattle.hb_edge.specs.Stops.{Passes}
use Rattle.hb_memdisk.specs.declared.call.Call.{Call}
use Rattle.hb_memdisk.specs.declared.call.Call.TheVariants.{Write, Shorten, Settle, Restart}
use Rattle.hb_memdisk.specs.declared.call.Noted.{Noted}
use Rattle.hb_memdisk.specs.Calls.{after, reads, settled_by, settled, filled_by, filled, may, images, leaves, newest}

-- a disk as it reads is one of its images
may_after : (call : Call) (older : Image → Type 0) (read : Image) → older read → may call read older (after call read)
may_after (Write at bytes) older read is = (read, is, torn_written at bytes read)
may_after (Shorten n) older read is = (read, is, cut_taken n read)
may_after Settle older read is = refl
may_after (Restart left) older read is = refl

pub reads_may : (first : Image) (calls : List Noted) → images first calls (reads first calls)
reads_may first [] = refl
reads_may first (noted ∷ older) = may_after noted.call (images first older) (reads first older) (reads_may first older)

-- so is what the last sync left
may_settled : (call : Call) (older : Image → Type 0) (read image : Image) → older image → may call read older (settled_by call read image)
may_settled (Write at bytes) older read image is = (image, is, torn_undone at (length bytes) image)
may_settled (Shorten n) older read image is = (image, is, cut_undone n image)
may_settled Settle older read image is = refl
may_settled (Restart left) older read image is = refl

pub settled_may : (first : Image) (calls : List Noted) → images first calls (settled first calls)
settled_may first [] = refl
settled_may first (noted ∷ older) = may_settled noted.call (images first older) (reads first older) (settled first older) (settled_may first older)

-- and so is what is filled
may_filled : (v : ℕ) (call : Call) (older : Image → Type 0) (read image : Image) → older image → may call read older (filled_by v call read image)
may_filled v (Write at bytes) older read image is =
    (image, is, subst (λ (n : ℕ). Torn at n image (patched v at (replicate (length bytes) v) image)) (length-replicate (length bytes) v) (torn_patched v at (replicate (length bytes) v) image))
may_filled v (Shorten n) older read image is = (image, is, cut_undone n image)
may_filled v Settle older read image is = refl
may_filled v (Restart left) older read image is = refl

pub filled_may : (v : ℕ) (first : Image) (calls : List Noted) → images first calls (filled v first calls)
filled_may v first [] = refl
filled_may v first (noted ∷ older) = may_filled v noted.call (images first older) (reads first older) (filled v first older) (filled_may v first older)

-- from its last call on nothing changes
pub leaves_images : (first : Image) (calls : List Noted) (m : ℕ) (image : Image) → newest calls ≤ m → leaves first calls m image → images first calls image
leaves_images first [] m image le left = left
leaves_images first (noted ∷ older) m image le (inl now) = now.1
leaves_images first (noted ∷ older) m image le (inr past) = absurd (omega (arith, le, past.0))

pub images_leaves : (first : Image) (calls : List Noted) (m : ℕ) (image : Image) → newest calls ≤ m → images first calls image → leaves first calls m image
images_leaves first [] m image le is = is
images_leaves first (noted ∷ older) m image le is = inl (le, is)

-- one call more
pub one_more : (first : Image) (calls : List Noted) (noted : Noted) (last : ℕ) (step : Image → Image → Type 0) → newest calls ≤ last
    → ((image : Image) → may noted.call (reads first calls) (images first calls) image → (was : Image) × images first calls was × step was image)
    → Passes step noted.at last (leaves first calls) (leaves first (noted ∷ calls))
one_more first calls noted last step in_time steps = record {
  before = λ m image early left. before m image early left;
  keeps = λ m image early left. inr (early, left);
  since = λ m image late left. since m image late left;
}
  where
    before : (m : ℕ) (image : Image) → m < noted.at → leaves first (noted ∷ calls) m image → leaves first calls m image
    before m image early (inl now) = absurd (omega (arith, early, now.0))
    before m image early (inr past) = past.1

    since : (m : ℕ) (image : Image) → max last noted.at ≤ m → leaves first (noted ∷ calls) m image → (was : Image) × leaves first calls last was × step was image
    since m image late (inl now) = let s = steps image now.1 in (s.0, images_leaves first calls last s.0 in_time s.1, s.2)
    since m image late (inr past) = absurd (omega (arith, late, past.0))

-- no call more: a step may do nothing
pub none_more : (first : Image) (calls : List Noted) (at last : ℕ) (step : Image → Image → Type 0) → newest calls ≤ last → ((image : Image) → step image image)
    → Passes step at last (leaves first calls) (leaves first calls)
none_more first calls at last step in_time stays = record {
  before = λ m image early left. left;
  keeps = λ m image early left. left;
  since = λ m image late left. (image, images_leaves first calls last image in_time (leaves_images first calls m image (omega (arith, in_time, late)) left), stays image);
}

-- a call that settles one of the images
pub settles : (first : Image) (calls : List Noted) (noted : Noted) (last : ℕ) (image : Image) → newest calls ≤ last → images first calls image
    → ((other : Image) → may noted.call (reads first calls) (images first calls) other → other ≡ image) → Passes Same noted.at last (leaves first calls) (leaves first (noted ∷ calls))
settles first calls noted last image in_time is_image only = one_more first calls noted last Same in_time (λ other is. (image, is_image, only other is))

-- the same of a disk whose parts are known by equations
pub none_more_to : (first first_now : Image) (calls calls_now : List Noted) (at last : ℕ) (step : Image → Image → Type 0) → first_now ≡ first → calls_now ≡ calls → newest calls ≤ last
    → ((image : Image) → step image image) → Passes step at last (leaves first calls) (leaves first_now calls_now)
none_more_to first first_now calls calls_now at last step is_first is_calls in_time stays =
    subst (λ (f : Image). Passes step at last (leaves first calls) (leaves f calls_now)) (sym is_first)
    (subst (λ (l : List Noted). Passes step at last (leaves first calls) (leaves first l)) (sym is_calls) (none_more first calls at last step in_time stays))

pub settles_to : (first first_now : Image) (calls calls_now : List Noted) (noted : Noted) (last : ℕ) (image : Image) → first_now ≡ first → calls_now ≡ noted ∷ calls → newest calls ≤ last
    → images first calls image → ((other : Image) → may noted.call (reads first calls) (images first calls) other → other ≡ image)
    → Passes Same noted.at last (leaves first calls) (leaves first_now calls_now)
settles_to first first_now calls calls_now noted last image is_first is_calls in_time is_image only =
    subst (λ (f : Image). Passes Same noted.at last (leaves first calls) (leaves f calls_now)) (sym is_first)
    (subst (λ (l : List Noted). Passes Same noted.at last (leaves first calls) (leaves first l)) (sym is_calls) (settles first calls noted last image in_time is_image only))
