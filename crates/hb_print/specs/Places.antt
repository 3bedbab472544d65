-- How nodes, owners, paths and waiting edges are written.
use Rattle.std.specs.Prelude.{ℕ, ◌-◌, ◌==◌, if◌then◌else◌, List, [], ◌∷◌, ◌++◌, get_or, codes}
use Rattle.std.specs.Fmt.{decimal, signed_decimal}
use Rattle.hb_types.specs.declared.names.NodeName.{NodeName}
use Rattle.hb_types.specs.declared.names.Owner.{Owner}
use Rattle.hb_types.specs.declared.places.Space.{Space}
use Rattle.hb_types.specs.declared.places.Place.{Place}
use Rattle.hb_types.specs.declared.places.Path.{Path}
use Rattle.hb_types.specs.declared.places.Path.TheVariants as path
use Rattle.hb_types.specs.declared.lock.Mode.{Mode}
use Rattle.hb_types.specs.declared.lock.Mode.TheVariants as mode
use Rattle.hb_types.specs.declared.answer.Edge.{Edge}

-- the names of a run's sessions, by place
abbrev pub Names : Type 0
Names = List (List ℕ)

unfoldable pub node_text : NodeName → List ℕ
node_text n =
    if n.0 == 0 then codes "fes1" else
    if n.0 == 1 then codes "ds" else
    if n.0 == 10 then codes "mgr" else
    codes "bes" ++ decimal (n.0 - 1)

-- the transaction that a session began as its nth, as in s1/2
unfoldable pub owner_text : Names → Owner → List ℕ
owner_text names o = get_or names o.session [] ++ (codes "/" ++ decimal o.nth)

unfoldable pub space_text : Space → List ℕ
space_text s = decimal s.area ++ (codes "." ++ decimal s.table)

unfoldable pub place_text : Place → List ℕ
place_text p = space_text p.space ++ (codes " " ++ (decimal p.group ++ (codes " " ++ signed_decimal p.key)))

unfoldable pub path_text : Path → List ℕ
path_text (path.Whole s) = codes "SPACE " ++ space_text s
path_text (path.Group s g) = codes "GROUP " ++ (space_text s ++ (codes " " ++ decimal g))
path_text (path.Key p) = codes "KEY " ++ place_text p

unfoldable pub mode_text : Mode → List ℕ
mode_text mode.IS = codes "IS"
mode_text mode.IX = codes "IX"
mode_text mode.S = codes "S"
mode_text mode.SIX = codes "SIX"
mode_text mode.X = codes "X"

-- as in s2/1 AT bes1 KEY 257.1 92 5 WANTS S FOR s1/3 X
unfoldable pub edge_text : Names → Edge → List ℕ
edge_text names e =
    owner_text names e.waiter_owner ++ (codes " AT " ++ (node_text e.node ++ (codes " " ++ (path_text e.path ++ (codes " WANTS " ++ (mode_text e.wanted ++ (codes " FOR " ++ (owner_text names e.holder_owner ++ (codes " " ++ mode_text e.held)))))))))

unfoldable pub further_edges : Names → List Edge → List ℕ
further_edges names [] = []
further_edges names (e ∷ es) = (codes "; " ++ edge_text names e) ++ further_edges names es

unfoldable pub edges_text : Names → List Edge → List ℕ
edges_text names [] = []
edges_text names (e ∷ es) = edge_text names e ++ further_edges names es
