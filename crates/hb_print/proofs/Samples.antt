-- Lines with their texts.
use Rattle.std.proofs.Common.{◌≡◌, ℕ, pos, negsuc, List, [], ◌∷◌, refl, codes, Some, None, Option}
use Rattle.std.specs.Fmt.{digits}
use Rattle.hb_types.specs.declared.places.Place.{Place}
use Rattle.hb_types.specs.declared.places.Path.TheVariants as path
use Rattle.hb_types.specs.declared.lock.Mode.TheVariants as mode
use Rattle.hb_types.specs.declared.answer.Edge.{Edge}
use Rattle.hb_types.specs.declared.value.Value.TheVariants as value
use Rattle.hb_model.specs.declared.reply.Reply.{Reply}
use Rattle.hb_model.specs.declared.reply.Reply.TheVariants as reply
use Rattle.hb_model.specs.declared.line.Line.{Line}
use Rattle.hb_print.specs.Records.{doubled, field_text, further_fields, record_text}
use Rattle.hb_print.specs.Places.{node_text, owner_text, space_text, place_text, path_text, mode_text, edge_text, further_edges, edges_text}
use Rattle.hb_print.specs.Replies.{words_of, count_line, node_line, named_line, last_line}
use Rattle.hb_print.specs.Texts.{session_text, rows_of, lines_of, text_of}

abbrev names : List (List ℕ)
names = codes "s1" ∷ codes "s2" ∷ []

abbrev told : Option ℕ → Reply → Line
told session r = record { session = session; work = None; reply = r }

abbrev row : Place
row = record { space = record { area = 257; table = 1 }; group = 92; key = pos 5 }

abbrev edge : ℕ → ℕ → ℕ → ℕ → Edge
edge waiter nth holder other = record {
  waiter = record { 0 = 1 };
  waiter_owner = record { session = waiter; nth = nth };
  node = record { 0 = 2 };
  path = path.Key row;
  wanted = mode.S;
  holder = record { 0 = 2 };
  holder_owner = record { session = holder; nth = other };
  held = mode.X;
}

sample_updated : last_line names (reply.Updated 3) ≡ codes "UPDATED 3"
unfolding digits words_of count_line node_line named_line last_line node_text owner_text space_text place_text path_text mode_text edge_text further_edges edges_text
sample_updated = refl

sample_deleted : last_line names (reply.Deleted 0) ≡ codes "DELETED 0"
unfolding digits words_of count_line node_line named_line last_line node_text owner_text space_text place_text path_text mode_text edge_text further_edges edges_text
sample_deleted = refl

sample_committed : last_line names (reply.Committed (record { 0 = 7 })) ≡ codes "COMMITTED 7"
unfolding digits words_of count_line node_line named_line last_line node_text owner_text space_text place_text path_text mode_text edge_text further_edges edges_text
sample_committed = refl

sample_stepped : last_line names (reply.Stepped 12) ≡ codes "STEPPED 12"
unfolding digits words_of count_line node_line named_line last_line node_text owner_text space_text place_text path_text mode_text edge_text further_edges edges_text
sample_stepped = refl

sample_moved : last_line names (reply.Moved 20 92 (record { 0 = 5 })) ≡ codes "MOVED 20 GROUP 92 AT 5"
unfolding digits words_of count_line node_line named_line last_line node_text owner_text space_text place_text path_text mode_text edge_text further_edges edges_text
sample_moved = refl

sample_complete : last_line names (reply.Complete (record { 0 = 9 })) ≡ codes "COMPLETE 9"
unfolding digits words_of count_line node_line named_line last_line node_text owner_text space_text place_text path_text mode_text edge_text further_edges edges_text
sample_complete = refl

sample_suspended : last_line names (reply.Suspended 3 (record { 0 = 9 })) ≡ codes "SUSPENDED 3 AT 9"
unfolding digits words_of count_line node_line named_line last_line node_text owner_text space_text place_text path_text mode_text edge_text further_edges edges_text
sample_suspended = refl

sample_syntax : last_line names (reply.Syntax 4 17) ≡ codes "LINE 4 SYNTAX 17"
unfolding digits words_of count_line node_line named_line last_line node_text owner_text space_text place_text path_text mode_text edge_text further_edges edges_text
sample_syntax = refl

sample_notinparallel : last_line names (reply.NotInParallel 4) ≡ codes "LINE 4 NOT IN PARALLEL"
unfolding digits words_of count_line node_line named_line last_line node_text owner_text space_text place_text path_text mode_text edge_text further_edges edges_text
sample_notinparallel = refl

sample_lines : last_line names (reply.Lines 8) ≡ codes "LINES 8"
unfolding digits words_of count_line node_line named_line last_line node_text owner_text space_text place_text path_text mode_text edge_text further_edges edges_text
sample_lines = refl

sample_down : last_line names (reply.Down (record { 0 = 2 })) ≡ codes "DOWN bes1"
unfolding digits words_of count_line node_line named_line last_line node_text owner_text space_text place_text path_text mode_text edge_text further_edges edges_text
sample_down = refl

sample_stopped : last_line names (reply.Stopped (record { 0 = 0 })) ≡ codes "STOPPED fes1"
unfolding digits words_of count_line node_line named_line last_line node_text owner_text space_text place_text path_text mode_text edge_text further_edges edges_text
sample_stopped = refl

sample_lost : last_line names (reply.Lost (record { 0 = 1 })) ≡ codes "LOST ds"
unfolding digits words_of count_line node_line named_line last_line node_text owner_text space_text place_text path_text mode_text edge_text further_edges edges_text
sample_lost = refl

sample_halted : last_line names (reply.Halted (record { 0 = 9 })) ≡ codes "bes8 HALTED"
unfolding digits words_of count_line node_line named_line last_line node_text owner_text space_text place_text path_text mode_text edge_text further_edges edges_text
sample_halted = refl

sample_armed : last_line names (reply.Armed (record { 0 = 2 }) 5) ≡ codes "bes1 ARMED 5"
unfolding digits words_of count_line node_line named_line last_line node_text owner_text space_text place_text path_text mode_text edge_text further_edges edges_text
sample_armed = refl

sample_up : last_line names (reply.Up (record { 0 = 10 })) ≡ codes "mgr UP"
unfolding digits words_of count_line node_line named_line last_line node_text owner_text space_text place_text path_text mode_text edge_text further_edges edges_text
sample_up = refl

sample_synced : last_line names (reply.Synced (record { 0 = 2 })) ≡ codes "bes1 SYNCED"
unfolding digits words_of count_line node_line named_line last_line node_text owner_text space_text place_text path_text mode_text edge_text further_edges edges_text
sample_synced = refl

sample_pointspent : last_line names (reply.PointSpent (record { 0 = 2 })) ≡ codes "bes1 NUMBERS SPENT"
unfolding digits words_of count_line node_line named_line last_line node_text owner_text space_text place_text path_text mode_text edge_text further_edges edges_text
sample_pointspent = refl

sample_alreadyup : last_line names (reply.AlreadyUp (record { 0 = 2 })) ≡ codes "bes1 ALREADY UP"
unfolding digits words_of count_line node_line named_line last_line node_text owner_text space_text place_text path_text mode_text edge_text further_edges edges_text
sample_alreadyup = refl

sample_alreadydown : last_line names (reply.AlreadyDown (record { 0 = 2 })) ≡ codes "bes1 ALREADY DOWN"
unfolding digits words_of count_line node_line named_line last_line node_text owner_text space_text place_text path_text mode_text edge_text further_edges edges_text
sample_alreadydown = refl

sample_fault : last_line names (reply.Fault (record { 0 = 2 })) ≡ codes "FAULT bes1"
unfolding digits words_of count_line node_line named_line last_line node_text owner_text space_text place_text path_text mode_text edge_text further_edges edges_text
sample_fault = refl

sample_damagedlog : last_line names (reply.DamagedLog (record { 0 = 2 }) 64) ≡ codes "DAMAGED bes1 LOG 64"
unfolding digits words_of count_line node_line named_line last_line node_text owner_text space_text place_text path_text mode_text edge_text further_edges edges_text
sample_damagedlog = refl

sample_damagedarea : last_line names (reply.DamagedArea (record { 0 = 2 }) 64) ≡ codes "DAMAGED bes1 AREA 64"
unfolding digits words_of count_line node_line named_line last_line node_text owner_text space_text place_text path_text mode_text edge_text further_edges edges_text
sample_damagedarea = refl

sample_damagedrow : last_line names (reply.DamagedRow (record { 0 = 2 }) row) ≡ codes "DAMAGED bes1 ROW 257.1 92 5"
unfolding digits words_of count_line node_line named_line last_line node_text owner_text space_text place_text path_text mode_text edge_text further_edges edges_text
sample_damagedrow = refl

sample_outcomeunknown : last_line names (reply.OutcomeUnknown (record { session = 0; nth = 2 })) ≡ codes "OUTCOME UNKNOWN s1/2"
unfolding digits words_of count_line node_line named_line last_line node_text owner_text space_text place_text path_text mode_text edge_text further_edges edges_text
sample_outcomeunknown = refl

sample_toldcommitted : last_line names (reply.ToldCommitted (record { session = 0; nth = 2 }) (record { 0 = 3 })) ≡ codes "s1/2 COMMITTED 3"
unfolding digits words_of count_line node_line named_line last_line node_text owner_text space_text place_text path_text mode_text edge_text further_edges edges_text
sample_toldcommitted = refl

sample_toldrolledback : last_line names (reply.ToldRolledBack (record { session = 1; nth = 2 })) ≡ codes "s2/2 ROLLED BACK"
unfolding digits words_of count_line node_line named_line last_line node_text owner_text space_text place_text path_text mode_text edge_text further_edges edges_text
sample_toldrolledback = refl

sample_tableline : last_line names (reply.TableLine (codes "STOCK") 20000 0) ≡ codes "TABLE STOCK ROWS 20000 MOVING 0"
unfolding digits words_of count_line node_line named_line last_line node_text owner_text space_text place_text path_text mode_text edge_text further_edges edges_text
sample_tableline = refl

sample_waits : last_line names (reply.Waits (edge 1 1 0 3 ∷ [])) ≡ codes "WAITS s2/1 AT bes1 KEY 257.1 92 5 WANTS S FOR s1/3 X"
unfolding digits words_of count_line node_line named_line last_line node_text owner_text space_text place_text path_text mode_text edge_text further_edges edges_text
sample_waits = refl

sample_deadlock : last_line names (reply.Deadlock (edge 1 1 0 3 ∷ edge 0 3 1 1 ∷ [])) ≡ codes "DEADLOCK s2/1 AT bes1 KEY 257.1 92 5 WANTS S FOR s1/3 X; s1/3 AT bes1 KEY 257.1 92 5 WANTS S FOR s2/1 X"
unfolding digits words_of count_line node_line named_line last_line node_text owner_text space_text place_text path_text mode_text edge_text further_edges edges_text
sample_deadlock = refl

two_rows : text_of names (told (Some 0) (reply.Rows ((value.Int (pos 5) ∷ value.Text (codes "e") ∷ []) ∷ (value.Int (negsuc 6) ∷ value.Text (codes "a,b") ∷ []) ∷ []))) ≡ codes "s1 ROW 5,e\ns1 ROW -7,\"a,b\"\ns1 ROWS 2\n"
unfolding digits words_of count_line node_line named_line last_line node_text owner_text space_text place_text path_text mode_text edge_text further_edges edges_text doubled field_text further_fields record_text session_text rows_of lines_of text_of
two_rows = refl

no_rows : text_of names (told (Some 1) (reply.Rows [])) ≡ codes "s2 ROWS 0\n"
unfolding digits words_of count_line node_line named_line last_line node_text owner_text space_text place_text path_text mode_text edge_text further_edges edges_text doubled field_text further_fields record_text session_text rows_of lines_of text_of
no_rows = refl

without_session : text_of names (told None (reply.Halted (record { 0 = 2 }))) ≡ codes "bes1 HALTED\n"
unfolding digits words_of count_line node_line named_line last_line node_text owner_text space_text place_text path_text mode_text edge_text further_edges edges_text doubled field_text further_fields record_text session_text rows_of lines_of text_of
without_session = refl

one_empty_text : record_text (value.Text [] ∷ []) ≡ codes "\"\""
unfolding digits words_of count_line node_line named_line last_line node_text owner_text space_text place_text path_text mode_text edge_text further_edges edges_text doubled field_text further_fields record_text session_text rows_of lines_of text_of
one_empty_text = refl

two_empty_texts : record_text (value.Text [] ∷ value.Text [] ∷ []) ≡ codes ","
unfolding digits words_of count_line node_line named_line last_line node_text owner_text space_text place_text path_text mode_text edge_text further_edges edges_text doubled field_text further_fields record_text session_text rows_of lines_of text_of
two_empty_texts = refl

a_quote_in_a_text : record_text (value.Text (codes "a\"b") ∷ []) ≡ codes "\"a\"\"b\""
unfolding digits words_of count_line node_line named_line last_line node_text owner_text space_text place_text path_text mode_text edge_text further_edges edges_text doubled field_text further_fields record_text session_text rows_of lines_of text_of
a_quote_in_a_text = refl

a_group : path_text (path.Group (record { area = 258; table = 3 }) 1023) ≡ codes "GROUP 258.3 1023"
unfolding digits words_of count_line node_line named_line last_line node_text owner_text space_text place_text path_text mode_text edge_text further_edges edges_text doubled field_text further_fields record_text session_text rows_of lines_of text_of
a_group = refl

a_space : path_text (path.Whole (record { area = 0; table = 4 })) ≡ codes "SPACE 0.4"
unfolding digits words_of count_line node_line named_line last_line node_text owner_text space_text place_text path_text mode_text edge_text further_edges edges_text doubled field_text further_fields record_text session_text rows_of lines_of text_of
a_space = refl
