use Rattle.std.specs.Prelude.{[], List, ℕ, option_map}
use Rattle.hb_model.specs.State.{Area, area_named}
use Rattle.hb_definerows.specs.DefineRows.{state_told}
use Rattle.hb_definerows.proofs.Reading.{read_more}
use Rattle.hb_definerows.proofs.create_table.new_members.Goals as goal

pub loop-name-preserved : goal.loop-name-preserved
loop-name-preserved c =
    read_more (λ (name : List ℕ). Unit {0}) (λ (name : List ℕ). option_map (λ (a : Area). a.number) (area_named (state_told [] c.args.areas.now) name))
    c.args.names.now c.loop-name.name-index c.name-item.result c.number_of.result c.loop-name.members.items c.push_some.new.items.items
    c.name-item.is c.loop-name-test.true (λ _. c.number_of.ensures) (λ _. c.loop-name.invariant) c.in_ok-push_some.ensures (λ k d lt. tt)
