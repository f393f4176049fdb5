-- The texts of the questions, and of the replies' last lines.
use Rattle.std.specs.Prelude.{ℕ, ◌+◌, Bool, true, false, List, [], ◌∷◌, ◌++◌, codes, decimal}
use Rattle.hex.specs.Hex.{encode_lower}
use Rattle.iceoryx2_postgres_log.specs.declared.question.TheConstants.{END}

-- what nothing bounds is read up to this number
abbrev pub end : ℕ
end = END

-- ---- where the log of a name stands

abbrev pub flag : Bool → List ℕ
flag true = codes "true"
flag false = codes "false"

abbrev pub reopening : List ℕ → List ℕ
reopening name = codes "select wulameron.opened('" ++ (name ++ codes "', false);\n\\echo opened :SQLSTATE\n")

-- how the session waits comes before it, and the log may be made
abbrev pub opening : List ℕ → Bool → ℕ → List ℕ
opening name makes wait =
    codes "set lock_timeout = " ++ (decimal wait
    ++ (codes "\\; set idle_in_transaction_session_timeout = 2000\\; select wulameron.opened('" ++ (name
    ++ (codes "', " ++ (flag makes ++ codes ");\n\\echo opened :SQLSTATE\n")))))

abbrev pub opened : List ℕ
opened = codes "opened 00000"

-- ---- the row of a number, and the next 64 up to another

abbrev pub of_log : (log generation : ℕ) → List ℕ
of_log log generation = codes "log = " ++ (decimal log ++ (codes " and generation = " ++ decimal generation))

abbrev pub reading : (log generation number until : ℕ) → List ℕ
reading log generation number until =
    codes "select seq || ' ' || encode(chain, 'hex') || ' ' || case when seq > " ++ (decimal number
    ++ (codes " then encode(bytes, 'hex') else (select max(seq)::text from wulameron.entries where "
    ++ (of_log log generation ++ (codes ") end from wulameron.entries where " ++ (of_log log generation
    ++ (codes " and seq between " ++ (decimal number
    ++ (codes " and " ++ (decimal until ++ codes " order by seq limit 65;\n")))))))))

abbrev pub looking : (log generation number until : ℕ) → List ℕ
looking log generation number until =
    reading log generation number until ++ codes "\\echo read :SQLSTATE\n"

abbrev pub read : List ℕ
read = codes "read 00000"

-- ---- the gate is locked before that

abbrev pub holding : (log generation number : ℕ) → List ℕ
holding log generation number =
    codes "begin isolation level read committed\\; select pg_advisory_lock('wulameron.logs'::regclass::oid::int, "
    ++ (decimal log ++ (codes ")\\; " ++ (reading log generation number END
    ++ (codes "\\echo held :SQLSTATE\n\\if :ERROR\nrollback;\nselect wulameron.let_go("
    ++ (decimal log ++ codes ");\n\\endif\n")))))

abbrev pub held : List ℕ
held = codes "held 00000"

-- the gate was locked by another all of the time that the server waits
abbrev pub busy : List ℕ
busy = codes "held 55P03"

-- ---- the bytes become the entry of a number, and that is committed

abbrev pub appending : (log generation number : ℕ) → (form : List ℕ) → List ℕ
appending log generation number form =
    codes "insert into wulameron.entries (log, generation, seq, bytes) values (" ++ (decimal log
    ++ (codes ", " ++ (decimal generation
    ++ (codes ", " ++ (decimal number
    ++ (codes ", '\\x" ++ (encode_lower form
    ++ codes "') returning seq || ' ' || encode(chain, 'hex')\\; commit and chain;\n\\echo appended :SQLSTATE\n")))))))

abbrev pub appended : List ℕ
appended = codes "appended 00000"

-- ---- the gate is let go of: nothing is told

abbrev pub letting_go : (log : ℕ) → List ℕ
letting_go log =
    codes "select 1 where not pg_advisory_unlock('wulameron.logs'::regclass::oid::int, "
    ++ (decimal log ++ codes ")\\; commit;\n")

-- ---- the same, and the server waits for five milliseconds

abbrev pub pausing : (log : ℕ) → List ℕ
pausing log = letting_go log ++ codes "select pg_sleep(0.005);\n\\echo paused :SQLSTATE\n"

abbrev pub paused : List ℕ
paused = codes "paused 00000"

-- ---- compaction: a mark, and the row before the first entry of the next generation

abbrev pub row_values : (log generation number : ℕ) → (form : List ℕ) → List ℕ
row_values log generation number form =
    codes "(" ++ (decimal log ++ (codes ", " ++ (decimal generation ++ (codes ", " ++ (decimal number
    ++ (codes ", '\\x" ++ (encode_lower form ++ codes "')")))))))

abbrev pub moving : (log generation number later : ℕ) → (form : List ℕ) → List ℕ
moving log generation number later form =
    codes "insert into wulameron.entries (log, generation, seq, bytes) values "
    ++ (row_values log generation number form ++ (codes ", (" ++ (decimal log ++ (codes ", " ++ (decimal later
    ++ codes ", 0, '') returning seq || ' ' || encode(chain, 'hex');\n\\echo moved :SQLSTATE\n")))))

abbrev pub moved : List ℕ
moved = codes "moved 00000"

-- ---- the snapshot's entries, behind a number

abbrev pub inserting : (log generation number : ℕ) → (form : List ℕ) → List ℕ
inserting log generation number form =
    codes "insert into wulameron.entries (log, generation, seq, bytes) values (" ++ (decimal log
    ++ (codes ", " ++ (decimal generation
    ++ (codes ", " ++ (decimal number
    ++ (codes ", '\\x" ++ (encode_lower form
    ++ codes "') returning seq || ' ' || encode(chain, 'hex') || ' ' || encode(bytes, 'hex')\\; ")))))))

abbrev pub insertings : (log generation number : ℕ) → (forms : List (List ℕ)) → List ℕ
insertings log generation number [] = []
insertings log generation number (form ∷ forms) =
    inserting log generation (number + 1) form ++ insertings log generation (number + 1) forms

abbrev pub copying : (log generation number : ℕ) → (forms : List (List ℕ)) → List ℕ
copying log generation number forms =
    insertings log generation number forms ++ codes "select 1 where false;\n\\echo copied :SQLSTATE\n"

abbrev pub copied : List ℕ
copied = codes "copied 00000"

-- ---- the next generation becomes the current one, and that is committed

abbrev pub going_on : (log generation snapshot : ℕ) → List ℕ
going_on log generation snapshot =
    codes "select wulameron.go_on(" ++ (decimal log
    ++ (codes ", " ++ (decimal generation
    ++ (codes ", " ++ (decimal snapshot
    ++ codes ")\\; commit and chain;\n\\echo went :SQLSTATE\n")))))

abbrev pub went : List ℕ
went = codes "went 00000"

-- ---- nothing of it is done: nothing is told

abbrev pub undoing : List ℕ
undoing = codes "rollback and chain;\n"
