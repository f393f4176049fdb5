-- The texts of the questions about nodes, and of the replies' last lines.
use Rattle.std.specs.Prelude.{ℕ, List, ◌++◌, codes, decimal}
use Rattle.iceoryx2_postgres_log.specs.Patience.{lock_wait}

-- ---- the session claims a node

unfoldable pub claiming : List ℕ → ℕ → ℕ → List ℕ
claiming name node patience =
    codes "set lock_timeout = " ++ (decimal (lock_wait patience) ++ (codes "\\; select wulameron.claim('"
    ++ (name ++ (codes "', " ++ (decimal node ++ codes ", true);\n\\echo claimed :SQLSTATE\n")))))

-- ---- the same, and nobody is waited for

unfoldable pub claiming_dead : List ℕ → ℕ → List ℕ
claiming_dead name node =
    codes "select wulameron.claim('"
    ++ (name ++ (codes "', " ++ (decimal node ++ codes ", false);\n\\echo claimed :SQLSTATE\n")))

-- ---- the lowest free node

unfoldable pub claiming_free : List ℕ → ℕ → List ℕ
claiming_free name patience =
    codes "set lock_timeout = " ++ (decimal (lock_wait patience) ++ (codes "\\; select wulameron.claim_free('"
    ++ (name ++ codes "');\n\\echo claimed :SQLSTATE\n")))

abbrev pub claimed : List ℕ
claimed = codes "claimed 00000"

-- ---- the session gives its claim of a node back

unfoldable pub releasing : List ℕ → ℕ → List ℕ
releasing name node =
    codes "select wulameron.release('"
    ++ (name ++ (codes "', " ++ (decimal node ++ codes ");\n\\echo released :SQLSTATE\n")))

abbrev pub released : List ℕ
released = codes "released 00000"

-- ---- each node that was ever claimed

unfoldable pub listing : List ℕ → List ℕ
listing name = codes "select wulameron.nodes('" ++ (name ++ codes "');\n\\echo listed :SQLSTATE\n")

abbrev pub listed : List ℕ
listed = codes "listed 00000"
