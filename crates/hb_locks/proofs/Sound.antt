-- What the table keeps true through grants and ends.
use Rattle.std.proofs.Common.{◌≡◌, ℕ, Bool, true, false, List, [], ◌∷◌, ◌++◌, refl, ap, sym, ◌∙◌, if◌then◌else◌, inl, inr, ◌+◌, ◌<◌, length, get_or, take}
use Rattle.std.specs.BTreeMap.{BTreeMap}
use Rattle.std.specs.Prelude.{◌==◌, ◌||◌}
use Rattle.std.specs.List.{list_any}
use Rattle.std.proofs.lemmas.Bool.{true≢false, false≢true, cases_Bool, cases_eq, eq-eqb}
use Rattle.std.proofs.lemmas.List.Folds.{list_any-append}
use Rattle.std.proofs.lemmas.List.{take_more}
use Rattle.hb_types.specs.declared.lock.Holder.{Holder}
use Rattle.hb_types.specs.declared.lock.Mode.{Mode}
use Rattle.hb_types.specs.declared.names.Tx.{Tx}
use Rattle.hb_types.specs.declared.places.Path.{Path}
use Rattle.hb_types.specs.Places.{same_path}
use Rattle.hb_locks.specs.Locks.{Locks, Changes, Releases, IsCompatible, are_compatible, blockers, granted, holders_at, without}
use Rattle.hb_locks.specs.Index.{IsSound, has_path, holds, paths_at}
use Rattle.hb_locks.proofs.Order.{same_path-eq, same_path-refl}
use Rattle.hb_locks.proofs.Lists.{or_left, or_right, holds-granted, holds-without, holds-without_own, without-absent, are_compatible-granted, are_compatible-filter}

-- a grant, where the path is kept for its transaction and no kept path is lost
pub sound-granted : (old new : Locks) (ps qs : BTreeMap ℕ (List Path)) (tx : Tx) (path : Path) (m : Mode) → IsSound old ps → blockers tx m (holders_at old path) ≡ [] → Changes old new path (granted tx m (holders_at old path)) → ((t : ℕ) (p : Path) → has_path (paths_at ps t) p ≡ true → has_path (paths_at qs t) p ≡ true) → has_path (paths_at qs tx.0) path ≡ true → IsSound new qs
sound-granted old new ps qs tx path m sound free changes more own = record { compatible = stand; kept = kept }
  where
    stand : IsCompatible new
    stand q = by (same_path path q) refl
      where
        by : (b : Bool) → same_path path q ≡ b → are_compatible (holders_at new q) ≡ true
        by true here = ap are_compatible (changes q ∙ ap (λ t. if t then granted tx m (holders_at old path) else holders_at old q) here) ∙ are_compatible-granted tx m (holders_at old path) (sound.compatible path) free
        by false there = ap are_compatible (changes q ∙ ap (λ t. if t then granted tx m (holders_at old path) else holders_at old q) there) ∙ sound.compatible q

    kept : (t : Tx) (q : Path) → holds t (holders_at new q) ≡ true → has_path (paths_at qs t.0) q ≡ true
    kept t q h = by (same_path path q) refl
      where
        by : (b : Bool) → same_path path q ≡ b → has_path (paths_at qs t.0) q ≡ true
        by true here =
            let at = same_path-eq path q here in
            elim (holds-granted t tx m (holders_at old path) (sym (ap (holds t) (changes q ∙ ap (λ b. if b then granted tx m (holders_at old path) else holders_at old q) here)) ∙ h)) [
              | inl same ↦ ap (λ n. has_path (paths_at qs n) q) same ∙ sym (ap (has_path (paths_at qs tx.0)) at) ∙ own
              | inr before ↦ sym (ap (has_path (paths_at qs t.0)) at) ∙ more t.0 path (sound.kept t path before)
            ]
        by false there = more t.0 q (sound.kept t q (sym (ap (holds t) (changes q ∙ ap (λ b. if b then granted tx m (holders_at old path) else holders_at old q) there)) ∙ h))

-- whoever is taken out of all the paths kept for it is out of each path
pub releases : (old new : Locks) (ps : BTreeMap ℕ (List Path)) (tx : Tx) → IsSound old ps → ((q : Path) → holders_at new q ≡ (if has_path (paths_at ps tx.0) q then without tx (holders_at old q) else holders_at old q)) → Releases old new tx
releases old new ps tx sound left q = left q ∙ by (has_path (paths_at ps tx.0) q) refl
  where
    by : (b : Bool) → has_path (paths_at ps tx.0) q ≡ b → (if has_path (paths_at ps tx.0) q then without tx (holders_at old q) else holders_at old q) ≡ without tx (holders_at old q)
    by true here = ap (λ t. if t then without tx (holders_at old q) else holders_at old q) here
    by false there =
        ap (λ t. if t then without tx (holders_at old q) else holders_at old q) there
        ∙ sym (without-absent tx (holders_at old q) (elim (cases_Bool (holds tx (holders_at old q))) [
          | inl among ↦ absurd (true≢false (sym (sound.kept tx q among) ∙ there))
          | inr absent ↦ absent
        ]))

pub sound-released : (old new : Locks) (ps qs : BTreeMap ℕ (List Path)) (tx : Tx) → IsSound old ps → Releases old new tx → ((t : ℕ) → (t ≡ tx.0 → ⊥) → paths_at qs t ≡ paths_at ps t) → IsSound new qs
sound-released old new ps qs tx sound released others = record {
  compatible = λ q. ap are_compatible (released q) ∙ are_compatible-filter _ (holders_at old q) (sound.compatible q);
  kept = kept;
}
  where
    kept : (t : Tx) (q : Path) → holds t (holders_at new q) ≡ true → has_path (paths_at qs t.0) q ≡ true
    kept t q h = elim (cases_eq t.0 tx.0) [
      | inl same ↦ absurd (false≢true (sym (ap (λ n. list_any (λ g. g.tx.0 == n) (without tx (holders_at old q))) same ∙ holds-without_own tx (holders_at old q)) ∙ sym (ap (holds t) (released q)) ∙ h))
      | inr other ↦ ap (λ ps'. has_path ps' q) (others t.0 other) ∙ sound.kept t q (holds-without t tx (holders_at old q) (sym (ap (holds t) (released q)) ∙ h))
    ]

-- other kept paths, of which none is lost
pub sound-more : (locks : Locks) (ps qs : BTreeMap ℕ (List Path)) → IsSound locks ps → ((t : ℕ) (p : Path) → has_path (paths_at ps t) p ≡ true → has_path (paths_at qs t) p ≡ true) → IsSound locks qs
sound-more locks ps qs sound more = record { compatible = sound.compatible; kept = λ t q h. more t.0 q (sound.kept t q h) }

pub same-more : (ps qs : BTreeMap ℕ (List Path)) → ((t : ℕ) → paths_at qs t ≡ paths_at ps t) → (t : ℕ) (p : Path) → has_path (paths_at ps t) p ≡ true → has_path (paths_at qs t) p ≡ true
same-more ps qs same t p h = ap (λ xs. has_path xs p) (same t) ∙ h

pub noted-more : (ps qs : BTreeMap ℕ (List Path)) (n : ℕ) (path : Path) → ((t : ℕ) → paths_at qs t ≡ (if n == t then paths_at ps t ++ path ∷ [] else paths_at ps t)) → (t : ℕ) (p : Path) → has_path (paths_at ps t) p ≡ true → has_path (paths_at qs t) p ≡ true
noted-more ps qs n path noted t p h = elim (cases_Bool (n == t)) [
  | inl here ↦
      ap (λ xs. has_path xs p) (noted t ∙ ap (λ b. if b then paths_at ps t ++ path ∷ [] else paths_at ps t) here)
      ∙ list_any-append (λ r. same_path r p) (paths_at ps t) (path ∷ []) ∙ ap (λ b. b || has_path (path ∷ []) p) h
  | inr there ↦ ap (λ xs. has_path xs p) (noted t ∙ ap (λ b. if b then paths_at ps t ++ path ∷ [] else paths_at ps t) there) ∙ h
]

pub noted-own : (ps qs : BTreeMap ℕ (List Path)) (n : ℕ) (path : Path) → ((t : ℕ) → paths_at qs t ≡ (if n == t then paths_at ps t ++ path ∷ [] else paths_at ps t)) → has_path (paths_at qs n) path ≡ true
noted-own ps qs n path noted =
    ap (λ xs. has_path xs path) (noted n ∙ ap (λ b. if b then paths_at ps n ++ path ∷ [] else paths_at ps n) (eq-eqb n n refl))
    ∙ list_any-append (λ r. same_path r path) (paths_at ps n) (path ∷ [])
    ∙ or_right (has_path (paths_at ps n) path) (same_path path path || false) (or_left (same_path path path) false (same_path-refl path))

-- one more path is left
pub leave_more : (old mid new : Locks) (ps : List Path) (i : ℕ) (d p : Path) (tx : Tx) → i < length ps → p ≡ get_or ps i d → ((q : Path) → holders_at mid q ≡ (if has_path (take i ps) q then without tx (holders_at old q) else holders_at old q)) → ((q : Path) → holders_at new q ≡ (if same_path p q then without tx (holders_at mid q) else holders_at mid q)) → (q : Path) → holders_at new q ≡ (if has_path (take (i + 1) ps) q then without tx (holders_at old q) else holders_at old q)
leave_more old mid new ps i d p tx within at before after q =
    let more : has_path (take (i + 1) ps) q ≡ (has_path (take i ps) q || (same_path p q || false)) =
    ap (λ xs. has_path xs q) (take_more ps i d within ∙ ap (λ r. take i ps ++ r ∷ []) (sym at)) ∙ list_any-append (λ r. same_path r q) (take i ps) (p ∷ []) in
    after q ∙ ap (λ hs. if same_path p q then without tx hs else hs) (before q) ∙ twice tx (holders_at old q) (same_path p q) (has_path (take i ps) q)
    ∙ sym (ap (λ t. if t then without tx (holders_at old q) else holders_at old q) more)
  where
    twice : (tx : Tx) (hs : List Holder) (a b : Bool) → (if a then without tx (if b then without tx hs else hs) else (if b then without tx hs else hs)) ≡ (if b || (a || false) then without tx hs else hs)
    twice tx hs true true = without-absent tx (without tx hs) (holds-without_own tx hs)
    twice tx hs true false = refl
    twice tx hs false true = refl
    twice tx hs false false = refl
