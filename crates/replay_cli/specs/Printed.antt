-- The printed texts.
use Rattle.std.specs.Prelude.{ℕ, ℤ, ◌+◌, List, [], ◌∷◌, ◌++◌, length, codes}
use Rattle.std.specs.Fmt.{decimal, signed_decimal}
use Rattle.hex.specs.Hex.{encode_lower}
use Rattle.audit_board.specs.Fields.{field, line_feed}
use Rattle.store_side.specs.declared.entry.Entry.{Entry}
use Rattle.store_side.specs.declared.entry.Entry.TheVariants.{Connect, Take, Lost, Expire}

-- a line: a word and what follows it, then a line feed
unfoldable pub line : List ℕ → List ℕ → List ℕ
line word text = word ++ text ++ 10 ∷ []

-- bytes in hex, or a dash where there are none
abbrev pub bytes_text : List ℕ → List ℕ
bytes_text [] = codes "-"
bytes_text (b ∷ bs) = encode_lower (b ∷ bs)

-- the line of the loss of a connection
abbrev pub lost_text : ℕ → List ℕ
lost_text connection = field (codes "lost ") (decimal connection) ++ line_feed

-- the line of the end of a session
abbrev pub expire_text : ℤ → ℤ → ℤ → List ℕ
expire_text session zxid now =
    field (codes "expire ") (signed_decimal session)
    ++ field (codes " zxid ") (signed_decimal zxid)
    ++ field (codes " at ") (signed_decimal now)
    ++ line_feed

-- the line of an entry
abbrev pub entry_text : Entry → List ℕ
entry_text (Connect connection asked session timeout password zxid now) =
    field (codes "connect ") (decimal connection)
    ++ field (codes " session ") (signed_decimal session)
    ++ field (codes " timeout ") (signed_decimal timeout)
    ++ field (codes " password ") (encode_lower password)
    ++ field (codes " zxid ") (signed_decimal zxid)
    ++ field (codes " at ") (signed_decimal now)
    ++ line_feed
entry_text (Take connection xid request zxid now) =
    field (codes "take ") (decimal connection)
    ++ field (codes " xid ") (signed_decimal xid)
    ++ field (codes " zxid ") (signed_decimal zxid)
    ++ field (codes " at ") (signed_decimal now)
    ++ line_feed
entry_text (Lost connection) = lost_text connection
entry_text (Expire session zxid now) = expire_text session zxid now

unfoldable pub entries_text : List Entry → List ℕ
entries_text [] = []
entries_text (entry ∷ entries) = entry_text entry ++ entries_text entries

-- how many entries there are, and each
abbrev pub order_text : List Entry → List ℕ
order_text entries = line (codes "order ") (decimal (length entries)) ++ entries_text entries
