-- The last line of each reply, without its session and its line feed.
use Rattle.std.specs.Prelude.{ℕ, List, [], ◌++◌, length, codes}
use Rattle.std.specs.Fmt.{decimal}
use Rattle.hb_model.specs.declared.reply.Reply.{Reply}
use Rattle.hb_model.specs.declared.reply.Reply.TheVariants as reply
use Rattle.hb_print.specs.Places.{Names, node_text, owner_text, place_text, edges_text}

-- replies that are words alone; nothing for another
unfoldable pub words_of : Reply → List ℕ
words_of reply.Created = codes "CREATED"
words_of reply.Added = codes "ADDED"
words_of reply.Inserted = codes "INSERTED 1"
words_of reply.Locked = codes "LOCKED"
words_of reply.RolledBack = codes "ROLLED BACK"
words_of reply.RolledBackEnd = codes "ROLLED BACK END"
words_of reply.Given = codes "GIVEN"
words_of reply.NoTable = codes "NO TABLE"
words_of reply.TableThere = codes "TABLE THERE"
words_of reply.NoColumn = codes "NO COLUMN"
words_of reply.ColumnTwice = codes "COLUMN TWICE"
words_of reply.KeyFixed = codes "KEY FIXED"
words_of reply.WrongType = codes "WRONG TYPE"
words_of reply.Overflow = codes "OVERFLOW"
words_of reply.TooLong = codes "TOO LONG"
words_of reply.KeyTaken = codes "KEY TAKEN"
words_of reply.AreaThere = codes "AREA THERE"
words_of reply.NoArea = codes "NO AREA"
words_of reply.NoNode = codes "NO NODE"
words_of reply.TooMany = codes "TOO MANY"
words_of reply.Rebalancing = codes "REBALANCING"
words_of reply.TooMuch = codes "TOO MUCH"
words_of reply.NumbersSpent = codes "NUMBERS SPENT"
words_of reply.InTransaction = codes "IN TRANSACTION"
words_of reply.NoTransaction = codes "NO TRANSACTION"
words_of reply.Busy = codes "BUSY"
words_of reply.NothingGiven = codes "NOTHING GIVEN"
words_of reply.Full = codes "FULL"
words_of reply.NoMemory = codes "NO MEMORY"
words_of _ = []

-- replies that are words and numbers; nothing for another
unfoldable pub count_line : Reply → List ℕ
count_line (reply.Rows rows) = codes "ROWS " ++ decimal (length rows)
count_line (reply.Updated n) = codes "UPDATED " ++ decimal n
count_line (reply.Deleted n) = codes "DELETED " ++ decimal n
count_line (reply.Committed n) = codes "COMMITTED " ++ decimal n.0
count_line (reply.Stepped k) = codes "STEPPED " ++ decimal k
count_line (reply.Moved rows group number) = codes "MOVED " ++ (decimal rows ++ (codes " GROUP " ++ (decimal group ++ (codes " AT " ++ decimal number.0))))
count_line (reply.Complete n) = codes "COMPLETE " ++ decimal n.0
count_line (reply.Suspended turns number) = codes "SUSPENDED " ++ (decimal turns ++ (codes " AT " ++ decimal number.0))
count_line (reply.Syntax line place) = codes "LINE " ++ (decimal line ++ (codes " SYNTAX " ++ decimal place))
count_line (reply.NotInParallel line) = codes "LINE " ++ (decimal line ++ codes " NOT IN PARALLEL")
count_line (reply.Lines n) = codes "LINES " ++ decimal n
count_line _ = []

-- replies that tell of a node; nothing for another
unfoldable pub node_line : Reply → List ℕ
node_line (reply.Down node) = codes "DOWN " ++ node_text node
node_line (reply.Stopped node) = codes "STOPPED " ++ node_text node
node_line (reply.Lost node) = codes "LOST " ++ node_text node
node_line (reply.Halted node) = node_text node ++ codes " HALTED"
node_line (reply.Armed node k) = node_text node ++ (codes " ARMED " ++ decimal k)
node_line (reply.Up node) = node_text node ++ codes " UP"
node_line (reply.Synced node) = node_text node ++ codes " SYNCED"
node_line (reply.PointSpent node) = node_text node ++ codes " NUMBERS SPENT"
node_line (reply.AlreadyUp node) = node_text node ++ codes " ALREADY UP"
node_line (reply.AlreadyDown node) = node_text node ++ codes " ALREADY DOWN"
node_line (reply.Fault node) = codes "FAULT " ++ node_text node
node_line (reply.DamagedLog node place) = codes "DAMAGED " ++ (node_text node ++ (codes " LOG " ++ decimal place))
node_line (reply.DamagedArea node place) = codes "DAMAGED " ++ (node_text node ++ (codes " AREA " ++ decimal place))
node_line (reply.DamagedRow node row) = codes "DAMAGED " ++ (node_text node ++ (codes " ROW " ++ place_text row))
node_line _ = []

-- replies that tell of transactions by their owners, or of a table; nothing for another
unfoldable pub named_line : Names → Reply → List ℕ
named_line names (reply.OutcomeUnknown o) = codes "OUTCOME UNKNOWN " ++ owner_text names o
named_line names (reply.ToldCommitted o n) = owner_text names o ++ (codes " COMMITTED " ++ decimal n.0)
named_line names (reply.ToldRolledBack o) = owner_text names o ++ codes " ROLLED BACK"
named_line names (reply.Waits edges) = codes "WAITS " ++ edges_text names edges
named_line names (reply.Deadlock edges) = codes "DEADLOCK " ++ edges_text names edges
named_line names (reply.TableLine table rows moving) = codes "TABLE " ++ (table ++ (codes " ROWS " ++ (decimal rows ++ (codes " MOVING " ++ decimal moving))))
named_line names _ = []

-- each reply is of one of these kinds, and the others add nothing
unfoldable pub last_line : Names → Reply → List ℕ
last_line names r = words_of r ++ (count_line r ++ (node_line r ++ named_line names r))
