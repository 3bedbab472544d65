use Rattle.std.proofs.Common.{◌≡◌, ◌++◌, ◌∷◌, [], List, refl, sym, subst, rules}
use Rattle.hb_types.specs.declared.answer.Answer.TheVariants as answer
use Rattle.hb_types.specs.declared.trail.TrailEntry.{TrailEntry}
use Rattle.hb_board.specs.declared.board.Board.{Board}
use Rattle.hb_node.specs.Laws.{asked_of, entry_of}
use Rattle.hb_manager.specs.Managing.{Explains}
use Rattle.hb_manager.proofs.Holders.{answers, stays_sound}
use Rattle.hb_manager.proofs.Running.{explained_more, explained_past}
use Rattle.hb_manager.proofs.manager.Manager.enter.Goals as goal

pub invariant_of-self : goal.invariant_of-self
invariant_of-self c = record { sound = stays_sound c.has_room.new.self.board c.ask_twice.new.board c.args.request c.in-Ok.answer c.in-Ok.ensures.goes c.requires.well_formed c.has_room.new.self.sound }

pub invariant_of-self-in-Err : goal.invariant_of-self-in-Err
invariant_of-self-in-Err c = record { sound = stays_sound c.has_room.new.self.board c.ask_twice.new.board c.args.request answer.NoMemory c.in-Err.ensures.none c.requires.well_formed c.has_room.new.self.sound }

pub returns-in-Ok-clause-told : goal.returns-in-Ok-clause-told
returns-in-Ok-clause-told c = answers c.has_room.new.self.board c.ask_twice.new.board c.args.request c.in-Ok.answer c.in-Ok.ensures.goes c.has_room.new.self.sound

pub returns-in-Ok-clause-law : goal.returns-in-Ok-clause-law
returns-in-Ok-clause-law c = λ origin e.
    let pushed : c.push.new.self.entries ≡ c.args.self.now.trail.entries ++ entry_of c.args.request c.in-Ok.answer c.args.moment c.args.moment ∷ [] = search rules in
    let was : Explains c.has_room.new.self.board origin (asked_of c.args.self.now.trail.entries) = subst (λ (b : Board). Explains b origin (asked_of c.args.self.now.trail.entries)) (sym c.has_room.ensures.board) e in
    subst (λ (l : List TrailEntry). Explains c.ask_twice.new.board origin (asked_of l)) (sym pushed)
    (explained_more c.has_room.new.self.board c.ask_twice.new.board c.args.self.now.trail.entries (entry_of c.args.request c.in-Ok.answer c.args.moment c.args.moment) origin c.in-Ok.ensures.goes was)

pub returns-in-Err-clause-law : goal.returns-in-Err-clause-law
returns-in-Err-clause-law c = λ origin e.
    let was : Explains c.has_room.new.self.board origin (asked_of c.args.self.now.trail.entries) = subst (λ (b : Board). Explains b origin (asked_of c.args.self.now.trail.entries)) (sym c.has_room.ensures.board) e in
    subst (λ (l : List TrailEntry). Explains c.ask_twice.new.board origin (asked_of l)) (sym c.has_room.ensures.entries)
    (explained_past c.has_room.new.self.board c.ask_twice.new.board c.args.request answer.NoMemory origin (asked_of c.args.self.now.trail.entries) refl c.in-Err.ensures.none was)
