use Rattle.std.proofs.Common.{◌∙◌, sym, arith}
use Rattle.hb_whole.proofs.Finding.{damaged_header, damaged_rows, err_place, point_found}
use Rattle.hb_whole.proofs.find.read_point.Goals as goal

pub returns-in-Ok-None-clause-damaged : goal.returns-in-Ok-None-clause-damaged
returns-in-Ok-None-clause-damaged g c = λ place is read told is_size long starts picks.
    let none = rw c.in-Ok-None.field-0-is at c.in-Ok-None.ensures in
    damaged_header read c.args.headers.now c.args.second c.args.size is_size long starts picks place (sym (err_place _ _ is) ∙ c.header_place.ensures.place) none

pub returns-in-Ok-Some-read_rows-clause-found : goal.returns-in-Ok-Some-read_rows-clause-found
returns-in-Ok-Some-read_rows-clause-found g c = λ read told is_size long starts picks.
    let has = rw c.in-Ok-Some.field-0-is at c.in-Ok-Some.ensures in
    let image = rw c.in-Ok-Some-read_rows.field-0-is at (c.in-Ok-Some-read_rows.ensures.found read told (omega (arith, has.within.inside, is_size))) in
    let p = c.point_of.ensures in
    point_found read c.args.headers.now c.args.second c.args.size is_size long starts picks c.in-Ok-Some.header c.in-Ok-Some-read_rows.rows _ _ _ _ has image p.valid p.spare_open p.point p.rows

pub returns-in-Ok-None-read_rows-clause-damaged : goal.returns-in-Ok-None-read_rows-clause-damaged
returns-in-Ok-None-read_rows-clause-damaged g c = λ place is read told is_size long starts picks.
    let has = rw c.in-Ok-Some.field-0-is at c.in-Ok-Some.ensures in
    let none = rw c.in-Ok-None-read_rows.field-0-is at (c.in-Ok-None-read_rows.ensures.found read told (omega (arith, has.within.inside, is_size))) in
    damaged_rows read c.args.headers.now c.args.second c.args.size is_size long starts picks place c.in-Ok-Some.header (sym (err_place _ _ is) ∙ c.header_place-in-Ok-None-read_rows.ensures.place) has none
