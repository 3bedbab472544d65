-- The bodies of records, and their readers.
use Rattle.std.proofs.Common.{◌≡◌, inl, ℕ, suc, ◌+◌, ◌-◌, ◌≤◌, ◌<◌, List, [], ◌∷◌, ◌++◌, length, drop, map, Ok, refl, sym, ◌∙◌, ap, subst, arith}
use Rattle.std.specs.Ordering.{nat_cmp}
use Rattle.std.proofs.lemmas.List.{append-nil}
use Rattle.std.proofs.lemmas.List.Elements.{All-from_recursion, recursion_from_All}
use Rattle.hb_types.specs.declared.change.LogItem.{LogItem}
use Rattle.hb_types.specs.declared.change.LogItem.TheVariants.{Prepare, Commit, Abort, Decision, Ids}
use Rattle.hb_types.specs.declared.names.NodeName.{NodeName}
use Rattle.hb_types.specs.declared.names.Number.{Number}
use Rattle.hb_types.specs.declared.names.Tx.{Tx}
use Rattle.hb_types.specs.Lists.{joined}
use Rattle.hb_types.specs.Numbers.{eight}
use Rattle.hb_types.specs.Records.{body_bytes, HasRecord}
use Rattle.hb_codec.specs.Spellings.{IsBodyOf, node_text}
use Rattle.hb_codec.specs.Readers.{◌>>=◌, number_in, many_in}
use Rattle.hb_codec.specs.RecordReaders.{greatest, node_in, node_after, commit_in, abort_in, decision_in, ids_in}
use Rattle.hb_codec.proofs.Calculus.{Reads, Bind, Pure, reads_bind, reads_pure, reads_same}
use Rattle.hb_codec.proofs.Digits.{IsNumber, reads_number}
use Rattle.hb_codec.proofs.Widths.{digits_one, digits_eight}
use Rattle.hb_codec.proofs.Lists.{Many, reads_many}
use Rattle.hb_codec.proofs.Ranks.{Goes, goes_nat}
use Rattle.hb_codec.proofs.Ordered.{IsItemAt, AreItems, items_to, items_from, above_none, ascends_of, above_room}

-- the numbers of a log
abbrev pub IsEight : ℕ → ℕ → List ℕ → Type 0
IsEight low = IsNumber 0 8 low greatest

pub reads_eight : (low : ℕ) → low ≤ 1 → Reads (IsEight low) (number_in 0 8 low greatest)
reads_eight low le = reads_number 0 8 low greatest (inl refl) (omega arith) (omega arith)

pub eight_is : (low n : ℕ) (bytes : List ℕ) → IsEight low n bytes → bytes ≡ eight n
eight_is low n bytes is = let below = is.below in is.is ∙ digits_eight n (omega arith)

pub to_eight : (low n : ℕ) → low ≤ n → n ≤ greatest → IsEight low n (eight n)
to_eight low n above below = record { above = above; below = below; is = sym (digits_eight n (omega arith)) }

pub last_is : {bytes front back : List ℕ} → bytes ≡ front ++ back → back ≡ [] → bytes ≡ front
last_is {bytes} {front} {back} split none = split ∙ ap (λ (l : List ℕ). front ++ l) none ∙ append-nil front

-- the body behind a tag
abbrev pub Behind : ℕ → LogItem → List ℕ → Type 0
Behind tag item back = IsBodyOf item (tag ∷ back)

behind_is : (tag k : ℕ) (back l : List ℕ) → tag ∷ back ≡ k ∷ l → (tag ≡ k) × (back ≡ l)
behind_is tag k back l e = (cc, cc)

-- the tag of an item, and what stands behind it
abbrev pub tag_of : LogItem → ℕ
tag_of (Prepare tx floor locks changes) = 1
tag_of (Commit tx number) = 2
tag_of (Abort tx) = 3
tag_of (Decision tx number nodes) = 4
tag_of (Ids upto) = 5

pub tagged : (item : LogItem) → (l : List ℕ) × (body_bytes item ≡ tag_of item ∷ l)
tagged (Prepare tx floor locks changes) = (_, refl)
tagged (Commit tx number) = (_, refl)
tagged (Abort tx) = (_, refl)
tagged (Decision tx number nodes) = (_, refl)
tagged (Ids upto) = (_, refl)

pub tag_is : (tag : ℕ) (item : LogItem) (back : List ℕ) → Behind tag item back → tag_of item ≡ tag
tag_is tag item back is = let t = tagged item in sym (behind_is tag (tag_of item) back t.0 (is.spelled ∙ t.1)).0

-- ---- Commit, Abort, Ids

Commits : LogItem → List ℕ → Type 0
Commits = Bind (IsEight 1) (λ tx. Bind (IsEight 1) (λ n. Pure (Commit (record { 0 = tx }) (record { 0 = n }))))

commits_to : (item : LogItem) (back : List ℕ) → Commits item back → Behind 2 item back
unfolding Commits
commits_to item back is =
    let a = is.value in
    let b = is.is_second.value in
    let rest = last_is is.is_second.split is.is_second.is_second.empty ∙ eight_is 1 b is.is_second.front is.is_second.is_first in
    let whole : back ≡ eight a ++ eight b = is.split ∙ (λ i. eight_is 1 a is.front is.is_first i ++ rest i) in
    subst (λ (x : LogItem). Behind 2 x back) (sym is.is_second.is_second.is)
    (record { fits = (((is.is_first.above, is.is_first.below), (is.is_second.is_first.above, is.is_second.is_first.below)), omega arith); spelled = ap (λ (l : List ℕ). 2 ∷ l) whole })

commits_from : (item : LogItem) (back : List ℕ) → Behind 2 item back → Commits item back
unfolding Commits
commits_from (Prepare tx floor locks changes) back is = absurd (omega (arith, tag_is 2 (Prepare tx floor locks changes) back is))
commits_from (Commit tx number) back is = record {
  value = tx.0;
  front = eight tx.0;
  back = eight number.0;
  split = ap (λ (l : List ℕ). drop 1 l) is.spelled;
  is_first = to_eight 1 tx.0 is.fits.0.0.0 is.fits.0.0.1;
  is_second = record { value = number.0; front = eight number.0; back = []; split = refl; is_first = to_eight 1 number.0 is.fits.0.1.0 is.fits.0.1.1; is_second = record { is = refl; empty = refl } };
}
commits_from (Abort tx) back is = absurd (omega (arith, tag_is 2 (Abort tx) back is))
commits_from (Decision tx number nodes) back is = absurd (omega (arith, tag_is 2 (Decision tx number nodes) back is))
commits_from (Ids upto) back is = absurd (omega (arith, tag_is 2 (Ids upto) back is))

pub reads_commit : Reads (Behind 2) commit_in
unfolding Commits commit_in
reads_commit =
    reads_same Commits (Behind 2) commit_in commits_to commits_from
    (reads_bind _ (λ tx. Bind (IsEight 1) (λ n. Pure (Commit (record { 0 = tx }) (record { 0 = n })))) (number_in 0 8 1 greatest) (λ tx bytes. number_in 0 8 1 greatest bytes >>= λ n. Ok (Commit (record { 0 = tx }) (record { 0 = n.0 }), n.1)) (reads_eight 1 (omega arith))
    (λ tx a is. reads_bind _ (λ n. Pure (Commit (record { 0 = tx }) (record { 0 = n }))) (number_in 0 8 1 greatest) (λ n bytes. Ok (Commit (record { 0 = tx }) (record { 0 = n }), bytes)) (reads_eight 1 (omega arith)) (λ n b are. reads_pure (Commit (record { 0 = tx }) (record { 0 = n })))))

Aborts : LogItem → List ℕ → Type 0
Aborts = Bind (IsEight 1) (λ tx. Pure (Abort (record { 0 = tx })))

aborts_to : (item : LogItem) (back : List ℕ) → Aborts item back → Behind 3 item back
unfolding Aborts
aborts_to item back is =
    let whole = last_is is.split is.is_second.empty ∙ eight_is 1 is.value is.front is.is_first in
    subst (λ (x : LogItem). Behind 3 x back) (sym is.is_second.is)
    (record { fits = ((is.is_first.above, is.is_first.below), omega arith); spelled = ap (λ (l : List ℕ). 3 ∷ l) whole })

aborts_from : (item : LogItem) (back : List ℕ) → Behind 3 item back → Aborts item back
unfolding Aborts
aborts_from (Prepare tx floor locks changes) back is = absurd (omega (arith, tag_is 3 (Prepare tx floor locks changes) back is))
aborts_from (Commit tx number) back is = absurd (omega (arith, tag_is 3 (Commit tx number) back is))
aborts_from (Abort tx) back is = record { value = tx.0; front = eight tx.0; back = []; split = ap (λ (l : List ℕ). drop 1 l) is.spelled; is_first = to_eight 1 tx.0 is.fits.0.0 is.fits.0.1; is_second = record { is = refl; empty = refl } }
aborts_from (Decision tx number nodes) back is = absurd (omega (arith, tag_is 3 (Decision tx number nodes) back is))
aborts_from (Ids upto) back is = absurd (omega (arith, tag_is 3 (Ids upto) back is))

pub reads_abort : Reads (Behind 3) abort_in
unfolding Aborts abort_in
reads_abort =
    reads_same Aborts (Behind 3) abort_in aborts_to aborts_from
    (reads_bind _ (λ tx. Pure (Abort (record { 0 = tx }))) (number_in 0 8 1 greatest) (λ tx bytes. Ok (Abort (record { 0 = tx }), bytes)) (reads_eight 1 (omega arith)) (λ tx a is. reads_pure (Abort (record { 0 = tx }))))

IdsOf : LogItem → List ℕ → Type 0
IdsOf = Bind (IsEight 1) (λ n. Pure (Ids n))

ids_to : (item : LogItem) (back : List ℕ) → IdsOf item back → Behind 5 item back
unfolding IdsOf
ids_to item back is =
    let whole = last_is is.split is.is_second.empty ∙ eight_is 1 is.value is.front is.is_first in
    subst (λ (x : LogItem). Behind 5 x back) (sym is.is_second.is)
    (record { fits = ((is.is_first.above, is.is_first.below), omega arith); spelled = ap (λ (l : List ℕ). 5 ∷ l) whole })

ids_from : (item : LogItem) (back : List ℕ) → Behind 5 item back → IdsOf item back
unfolding IdsOf
ids_from (Prepare tx floor locks changes) back is = absurd (omega (arith, tag_is 5 (Prepare tx floor locks changes) back is))
ids_from (Commit tx number) back is = absurd (omega (arith, tag_is 5 (Commit tx number) back is))
ids_from (Abort tx) back is = absurd (omega (arith, tag_is 5 (Abort tx) back is))
ids_from (Decision tx number nodes) back is = absurd (omega (arith, tag_is 5 (Decision tx number nodes) back is))
ids_from (Ids upto) back is = record { value = upto; front = eight upto; back = []; split = ap (λ (l : List ℕ). drop 1 l) is.spelled; is_first = to_eight 1 upto is.fits.0.0 is.fits.0.1; is_second = record { is = refl; empty = refl } }

pub reads_ids : Reads (Behind 5) ids_in
unfolding IdsOf ids_in
reads_ids =
    reads_same IdsOf (Behind 5) ids_in ids_to ids_from
    (reads_bind _ (λ n. Pure (Ids n)) (number_in 0 8 1 greatest) (λ n bytes. Ok (Ids n, bytes)) (reads_eight 1 (omega arith)) (λ n a is. reads_pure (Ids n)))

-- ---- Decision

abbrev NodeFits : NodeName → Type 0
NodeFits node = (1 ≤ node.0) × (node.0 ≤ 9)

abbrev node_rank : NodeName → ℕ
node_rank node = node.0

node_below : (node : NodeName) → NodeFits node → node_rank node < 10
node_below node fits = omega (arith, fits.1)

pub record NodesFit (n least : ℕ) : Type 0 where
  pub some : least + n ≤ 10
  pub from_one : 1 ≤ least

abbrev IsNodeAt : ℕ → ℕ → NodeName → List ℕ → Type 0
IsNodeAt = IsItemAt node_rank NodeFits node_text 10

Nodes : ℕ → ℕ → NodeName → List ℕ → Type 0
Nodes n least = Bind (IsNumber 0 1 least (9 - n)) (λ b. Pure (record { 0 = b }))

nodes_to : (n least : ℕ) → NodesFit (suc n) least → (node : NodeName) (bytes : List ℕ) → Nodes n least node bytes → IsNodeAt n least node bytes
unfolding Nodes
nodes_to n least v node bytes is =
    let b = is.value in
    let above = is.is_first.above in
    let below = is.is_first.below in
    let some = v.some in
    let one = v.from_one in
    let whole : bytes ≡ b ∷ [] = last_is is.split is.is_second.empty ∙ is.is_first.is ∙ digits_one b (omega arith) in
    subst (λ (x : NodeName). IsNodeAt n least x bytes) (sym is.is_second.is)
    (record { fits = (omega arith, omega arith); is = whole; above = above; below = omega arith })

nodes_from : (n least : ℕ) (node : NodeName) (bytes : List ℕ) → IsNodeAt n least node bytes → Nodes n least node bytes
unfolding Nodes
nodes_from n least node bytes is =
    let above = is.above in
    let below = is.below in
    record { value = node.0; front = node.0 ∷ []; back = []; split = is.is; is_first = record { above = above; below = omega arith; is = sym (digits_one node.0 (omega (arith, is.fits.1))) }; is_second = record { is = refl; empty = refl } }

reads_node : (n least : ℕ) → NodesFit (suc n) least → Reads (IsNodeAt n least) (node_in n least)
unfolding Nodes node_in
reads_node n least v =
    reads_same (Nodes n least) (IsNodeAt n least) (node_in n least) (nodes_to n least v) (nodes_from n least)
    (reads_bind _ (λ b. Pure (record { 0 = b })) (number_in 0 1 least (9 - n)) (λ b bytes. Ok (record { 0 = b }, bytes)) (reads_number 0 1 least (9 - n) (inl refl) (omega (arith, v.some)) (omega arith)) (λ b a is. reads_pure (record { 0 = b })))

keeps_node : (n least : ℕ) (node : NodeName) (b : List ℕ) → NodesFit (suc n) least → IsNodeAt n least node b → NodesFit n (node.0 + 1)
keeps_node n least node b v is = let below = is.below in record { some = omega arith; from_one = omega arith }

reads_nodes : (n : ℕ) → n ≤ 9 → Reads (AreItems node_rank NodeFits node_text n 1) (many_in node_in node_after n 1)
reads_nodes n few =
    reads_same (Many IsNodeAt node_after n 1) (AreItems node_rank NodeFits node_text n 1) (many_in node_in node_after n 1)
    (λ xs bytes is. items_to node_rank NodeFits node_text 10 node_below n 1 xs bytes is)
    (λ xs bytes are. items_from node_rank NodeFits node_text 10 node_below n 1 xs bytes are)
    (reads_many IsNodeAt node_in node_after NodesFit reads_node keeps_node n 1 (record { some = omega arith; from_one = omega arith }))

goes_node : (x y : NodeName) → NodeFits x → NodeFits y → Goes (nat_cmp x.0 y.0) x.0 y.0
goes_node x y a b = goes_nat x.0 y.0

pub nodes_text : (xs : List NodeName) → joined (map node_text xs) ≡ map (λ n. n.0) xs
nodes_text [] = refl
nodes_text (x ∷ xs) = ap (λ (l : List ℕ). x.0 ∷ l) (nodes_text xs)

map_long : (xs : List NodeName) → length (map (λ n. n.0) xs) ≡ length xs
map_long [] = refl
map_long (x ∷ xs) = ap suc (map_long xs)

Decisions : LogItem → List ℕ → Type 0
Decisions = Bind (IsEight 1) (λ tx. Bind (IsEight 1) (λ n. Bind (IsNumber 0 1 1 9) (λ count. Bind (AreItems node_rank NodeFits node_text count 1) (λ nodes. Pure (Decision (record { 0 = tx }) (record { 0 = n }) nodes)))))

decisions_to : (item : LogItem) (back : List ℕ) → Decisions item back → Behind 4 item back
unfolding Decisions
decisions_to item back is =
    let tx = is.value in
    let s = is.is_second in
    let n = s.value in
    let t = s.is_second in
    let count = t.value in
    let u = t.is_second in
    let nodes = u.value in
    let are = u.is_first in
    let count_low = t.is_first.above in
    let count_high = t.is_first.below in
    let counted : t.front ≡ length nodes ∷ [] = t.is_first.is ∙ digits_one count (omega arith) ∙ ap (λ (k : ℕ). k ∷ []) (sym are.count) in
    let names : t.back ≡ map (λ n. n.0) nodes = last_is u.split u.is_second.empty ∙ are.is ∙ nodes_text nodes in
    let rest : s.back ≡ length nodes ∷ map (λ n. n.0) nodes = t.split ∙ (λ i. counted i ++ names i) in
    let more : is.back ≡ eight n ++ (length nodes ∷ map (λ n. n.0) nodes) = s.split ∙ (λ i. eight_is 1 n s.front s.is_first i ++ rest i) in
    let whole : back ≡ eight tx ++ (eight n ++ (length nodes ∷ map (λ n. n.0) nodes)) = is.split ∙ (λ i. eight_is 1 tx is.front is.is_first i ++ more i) in
    let long = map_long nodes in
    subst (λ (x : LogItem). Behind 4 x back) (sym u.is_second.is)
    (record {
      fits = (
        ((is.is_first.above, is.is_first.below), (s.is_first.above, s.is_first.below), ascends_of (λ a b. nat_cmp a.0 b.0) node_rank NodeFits goes_node 1 nodes are.fit are.up, omega (arith, are.count), All-from_recursion NodeFits nodes are.fit),
        omega (arith, long, are.count),
      );
      spelled = ap (λ (l : List ℕ). 4 ∷ l) whole;
    })

pub few_nodes : (tx : Tx) (number : Number) (nodes : List NodeName) → HasRecord (Decision tx number nodes) → length nodes ≤ 9
few_nodes tx number nodes has =
    let m = has.0 in
    let fit = recursion_from_All NodeFits nodes m.4 in
    let up = above_none (λ a b. nat_cmp a.0 b.0) node_rank NodeFits goes_node nodes fit m.2 1 (λ x f. f.0) in
    let room = above_room node_rank NodeFits node_text 10 node_below 1 nodes fit up (omega arith) in
    omega (arith, room)

decisions_from : (item : LogItem) (back : List ℕ) → Behind 4 item back → Decisions item back
unfolding Decisions
decisions_from (Prepare tx floor locks changes) back is = absurd (omega (arith, tag_is 4 (Prepare tx floor locks changes) back is))
decisions_from (Commit tx number) back is = absurd (omega (arith, tag_is 4 (Commit tx number) back is))
decisions_from (Abort tx) back is = absurd (omega (arith, tag_is 4 (Abort tx) back is))
decisions_from (Decision tx number nodes) back is =
    let m = is.fits.0 in
    let fit = recursion_from_All NodeFits nodes m.4 in
    let up = above_none (λ a b. nat_cmp a.0 b.0) node_rank NodeFits goes_node nodes fit m.2 1 (λ x f. f.0) in
    let room = above_room node_rank NodeFits node_text 10 node_below 1 nodes fit up (omega arith) in
    let some = m.3 in
    record {
      value = tx.0;
      front = eight tx.0;
      back = eight number.0 ++ (length nodes ∷ map (λ n. n.0) nodes);
      split = ap (λ (l : List ℕ). drop 1 l) is.spelled;
      is_first = to_eight 1 tx.0 m.0.0 m.0.1;
      is_second = record {
        value = number.0;
        front = eight number.0;
        back = length nodes ∷ map (λ n. n.0) nodes;
        split = refl;
        is_first = to_eight 1 number.0 m.1.0 m.1.1;
        is_second = record {
          value = length nodes;
          front = length nodes ∷ [];
          back = map (λ n. n.0) nodes;
          split = refl;
          is_first = record { above = some; below = omega (arith, room); is = sym (digits_one (length nodes) (omega (arith, room))) };
          is_second = record {
            value = nodes;
            front = map (λ n. n.0) nodes;
            back = [];
            split = sym (append-nil (map (λ n. n.0) nodes));
            is_first = record { count = refl; fit = fit; up = up; is = sym (nodes_text nodes) };
            is_second = record { is = refl; empty = refl };
          };
        };
      };
    }
decisions_from (Ids upto) back is = absurd (omega (arith, tag_is 4 (Ids upto) back is))

pub reads_decision : Reads (Behind 4) decision_in
unfolding Decisions decision_in
reads_decision =
    reads_same Decisions (Behind 4) decision_in decisions_to decisions_from
    (reads_bind _ (λ tx. Bind (IsEight 1) (λ n. Bind (IsNumber 0 1 1 9) (λ count. Bind (AreItems node_rank NodeFits node_text count 1) (λ nodes. Pure (Decision (record { 0 = tx }) (record { 0 = n }) nodes)))))
    (number_in 0 8 1 greatest) (λ tx bytes. number_in 0 8 1 greatest bytes >>= λ n. number_in 0 1 1 9 n.1 >>= λ count. many_in node_in node_after count.0 1 count.1 >>= λ nodes. Ok (Decision (record { 0 = tx }) (record { 0 = n.0 }) nodes.0, nodes.1))
    (reads_eight 1 (omega arith))
    (λ tx a is. reads_bind _ (λ n. Bind (IsNumber 0 1 1 9) (λ count. Bind (AreItems node_rank NodeFits node_text count 1) (λ nodes. Pure (Decision (record { 0 = tx }) (record { 0 = n }) nodes))))
    (number_in 0 8 1 greatest) (λ n bytes. number_in 0 1 1 9 bytes >>= λ count. many_in node_in node_after count.0 1 count.1 >>= λ nodes. Ok (Decision (record { 0 = tx }) (record { 0 = n }) nodes.0, nodes.1))
    (reads_eight 1 (omega arith))
    (λ n b are. reads_bind _ (λ count. Bind (AreItems node_rank NodeFits node_text count 1) (λ nodes. Pure (Decision (record { 0 = tx }) (record { 0 = n }) nodes)))
    (number_in 0 1 1 9) (λ count bytes. many_in node_in node_after count 1 bytes >>= λ nodes. Ok (Decision (record { 0 = tx }) (record { 0 = n }) nodes.0, nodes.1))
    (reads_number 0 1 1 9 (inl refl) (omega arith) (omega arith))
    (λ count c these. reads_bind _ (λ nodes. Pure (Decision (record { 0 = tx }) (record { 0 = n }) nodes)) (many_in node_in node_after count 1) (λ nodes bytes. Ok (Decision (record { 0 = tx }) (record { 0 = n }) nodes, bytes))
    (reads_nodes count these.below) (λ nodes d those. reads_pure (Decision (record { 0 = tx }) (record { 0 = n }) nodes))))))
