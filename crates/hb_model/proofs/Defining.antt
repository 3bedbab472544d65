-- CREATE RDAREA, CREATE TABLE and ADD RDAREA, with each refusal, computed.
use Rattle.std.proofs.Common.{◌≡◌, ℕ, false, refl, List, [], ◌∷◌, map}
use Rattle.std.specs.Prelude.{codes}
use Rattle.std.specs.List.{range_with_len}
use Rattle.hb_types.specs.declared.entry.Entry.TheVariants.{Moving}
use Rattle.hb_types.specs.declared.value.Column.{Column}
use Rattle.hb_model.specs.declared.reply.Reply.TheVariants as reply
use Rattle.hb_model.specs.declared.statement.Statement.{Statement}
use Rattle.hb_model.specs.declared.statement.Statement.TheVariants as statement
use Rattle.hb_model.specs.Does.{does, effect}
use Rattle.hb_model.specs.State.{State}
use Rattle.hb_model.proofs.Samples.{sample, holding, columns, number_column, reply_to, replies_to}

area : List ℕ → List ℕ → Statement
area name node = statement.CreateArea name node

create-area :
    replies_to sample
    (statement.CreateArea (codes "A3") (codes "bes1") ∷ statement.CreateArea (codes "A3") (codes "bes3") ∷ statement.CreateArea (codes "A1") (codes "bes2") ∷ [])
    ≡ reply.Created ∷ reply.NoNode ∷ reply.AreaThere ∷ []
unfolding does effect
create-area = refl

-- the next area of bes1 is 258
create-area-number :
    (does 2 sample 0 false (statement.CreateArea (codes "A3") (codes "bes1"))).state.layout.areas
    ≡ record { number = 257; name = codes "A1" } ∷ record { number = 258; name = codes "A3" } ∷ record { number = 513; name = codes "A2" } ∷ []
unfolding does effect
create-area-number = refl

crowded : State
crowded = record { tables = []; layout = record { areas = map (λ i. record { number = i; name = i ∷ [] }) (range_with_len 257 64); spreads = [] } }

create-area-too-many : reply_to crowded (statement.CreateArea (codes "A3") (codes "bes1")) ≡ reply.TooMany
unfolding does effect crowded
create-area-too-many = refl

abbrev many_columns : List Column
many_columns = map (λ i. number_column (i ∷ [])) (range_with_len 1 17)

create-table :
    replies_to sample
    (statement.CreateTable (codes "U") columns (codes "K") (codes "A1" ∷ codes "A2" ∷ []) ∷ statement.CreateTable (codes "T") columns (codes "K") (codes "A1" ∷ [])
    ∷ statement.CreateTable (codes "U") many_columns (codes "K") (codes "A1" ∷ []) ∷ statement.CreateTable (codes "U") (number_column (codes "K") ∷ columns) (codes "K") (codes "A1" ∷ [])
    ∷ statement.CreateTable (codes "U") columns (codes "Q") (codes "A1" ∷ []) ∷ statement.CreateTable (codes "U") columns (codes "V") (codes "A1" ∷ [])
    ∷ statement.CreateTable (codes "U") columns (codes "K") (codes "A9" ∷ []) ∷ statement.CreateTable (codes "U") columns (codes "K") (codes "A1" ∷ codes "A1" ∷ []) ∷ [])
    ≡ reply.Created ∷ reply.TableThere ∷ reply.TooMany ∷ reply.ColumnTwice ∷ reply.NoColumn ∷ reply.WrongType ∷ reply.NoArea ∷ reply.AreaThere ∷ []
unfolding does effect
create-table = refl

-- a VARCHAR of no size is kept as 65,535
create-table-size :
    reply_to sample (statement.CreateTable (codes "U") (number_column (codes "K") ∷ record { name = codes "V"; size = 65535 } ∷ []) (codes "K") (codes "A1" ∷ [])) ≡ reply.WrongType
unfolding does effect
create-table-size = refl

abbrev full_table : State
full_table =
    record sample {
      layout = record {
        areas = record { number = 999; name = codes "A9" } ∷ [];
        spreads = record { number = 1; name = codes "T"; members = range_with_len 1 16; entries = [] } ∷ [];
      };
    }

add-area :
    replies_to sample
    (statement.AddArea (codes "T") (codes "A2") ∷ statement.AddArea (codes "U") (codes "A2") ∷ statement.AddArea (codes "T") (codes "A9") ∷ statement.AddArea (codes "T") (codes "A1") ∷ [])
    ≡ reply.Added ∷ reply.NoTable ∷ reply.NoArea ∷ reply.AreaThere ∷ []
unfolding does effect
add-area = refl

add-area-rebalancing : reply_to (holding (Moving 257 258 ∷ []) []) (statement.AddArea (codes "T") (codes "A2")) ≡ reply.Rebalancing
unfolding does effect
add-area-rebalancing = refl

add-area-too-many : reply_to full_table (statement.AddArea (codes "T") (codes "A9")) ≡ reply.TooMany
unfolding does effect
add-area-too-many = refl

-- the limit of changes is passed
too-much :
    map (λ st. (does 2 sample 1048576 false st).reply)
    (statement.CreateArea (codes "A3") (codes "bes1") ∷ statement.CreateTable (codes "U") columns (codes "K") (codes "A1" ∷ []) ∷ statement.AddArea (codes "T") (codes "A2") ∷ [])
    ≡ reply.TooMuch ∷ reply.TooMuch ∷ reply.TooMuch ∷ []
unfolding does effect
too-much = refl
