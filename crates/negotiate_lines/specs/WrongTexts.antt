-- What can be wrong with a line, in words.
use Rattle.std.specs.Prelude.{ℕ, ◌≡◌, List, [], ◌∷◌, ◌++◌, Option, Some, None, codes, cond, map}
use Rattle.std.specs.Borrow.{Bor}
use Rattle.negotiate_lines.specs.declared.vocabulary.Admitted.{Admitted}
use Rattle.negotiate_lines.specs.declared.vocabulary.Kind.{Kind}
use Rattle.negotiate_lines.specs.declared.vocabulary.Kind.TheVariants as kind
use Rattle.negotiate_lines.specs.declared.line_error.LineError.{LineError}
use Rattle.negotiate_lines.specs.declared.line_error.LineError.TheVariants as wrong
use Rattle.negotiate_lines.specs.declared.wrong_text.Reason.{Reason}
use Rattle.negotiate_lines.specs.declared.wrong_text.Reason.TheVariants as reason
use Rattle.negotiate_lines.specs.Escapes.{shown}
use Rattle.negotiate_lines.specs.Nearest.{Suggests}
use Rattle.negotiate_lines.specs.Wrongs.{command_words}

-- what the value of a setting is
abbrev pub kind_text : Kind → List ℕ
kind_text kind.Number = codes "a number below 2^64"
kind_text kind.Truth = codes "true or false"
kind_text kind.Event = codes "a number below 2^64, or none"
kind_text kind.Length = codes "<seconds>,<nanoseconds>, or none"
kind_text kind.Alignment = codes "a power of two below 2^64"
kind_text kind.Type = codes "<fixed or dynamic>,<name>,<size>,<alignment>"

-- the text of each, without a hint; each word of the line is escaped and cut
abbrev pub reason_text : LineError → List ℕ
reason_text wrong.NotUtf8 = codes "not UTF-8"
reason_text (wrong.NoSuchCommand term) = shown term.now ++ codes ": no such command"
reason_text (wrong.BehindList term) = shown term.now ++ codes ": nothing stands behind list"
reason_text (wrong.BehindSlot term) = shown term.now ++ codes ": nothing stands behind the slot of a close"
reason_text wrong.NoCall = codes "no call; it is create, open or open_or_create"
reason_text (wrong.NoSuchCall term) = shown term.now ++ codes ": no such call"
reason_text wrong.NoNode = codes "no node; it is a number below 2^64"
reason_text (wrong.NoNodeNumber term) = codes "node " ++ (shown term.now ++ codes ": a number below 2^64")
reason_text wrong.NoSlot = codes "no slot; it is a number from 0 to 63"
reason_text (wrong.NoSlotNumber term) = codes "slot " ++ (shown term.now ++ codes ": a number from 0 to 63")
reason_text (wrong.SlotTooGreat term) = codes "slot " ++ (shown term.now ++ codes ": at most 63")
reason_text wrong.NoName = codes "no name"
reason_text (wrong.BrokenLeaf term) = shown term.now ++ codes ": a % stands before two digits of a byte of UTF-8"
reason_text (wrong.NameLength term) = codes "name " ++ (shown term.now ++ codes ": 1 to 255 bytes")
reason_text (wrong.NoEqualsSign term) = shown term.now ++ codes ": no =; it is <setting>=<value>"
reason_text (wrong.NoSuchSetting name pattern settings admitted) =
    shown name.now ++ (codes ": no such setting of " ++ pattern.now)
reason_text (wrong.Value name value kind) = shown name.now ++ (codes "="
    ++ (shown value.now ++ (codes ": " ++ (shown name.now ++ (codes " is " ++ kind_text kind)))))
reason_text (wrong.NoTime value) =
    codes "now=" ++ (shown value.now ++ codes ": now is <seconds>,<nanoseconds>, or fault")
reason_text wrong.NowWithOpen = codes "now: not with open"
reason_text (wrong.NowOfPattern pattern) = codes "now: not with " ++ pattern.now
reason_text wrong.KeyWithCreate = codes "require_key: not with create"
reason_text (wrong.NoColon value) = codes "attribute=" ++ (shown value.now ++ codes ": an attribute is <key>:<value>")
reason_text (wrong.KeyLength key) = codes "key " ++ (shown key.now ++ codes ": 1 to 64 bytes")
reason_text (wrong.ValueLength value) = codes "value " ++ (shown value.now ++ codes ": at most 256 bytes")
reason_text (wrong.TooManyPairs key value) =
    codes "attribute=" ++ (shown key.now ++ (codes ":" ++ (shown value.now ++ codes ": at most 64 different pairs")))
reason_text (wrong.TooManyKeys key) = codes "require_key=" ++ (shown key.now ++ codes ": at most 64 different keys")

-- ---- forms of these texts

-- of a value that its setting doesn't take
abbrev pub value_text : (name value : List ℕ) → Kind → List ℕ
value_text name value kind =
    shown name ++ (codes "=" ++ (shown value ++ (codes ": " ++ (shown name ++ (codes " is " ++ kind_text kind)))))

abbrev pub text_of : Reason → List ℕ
text_of (reason.Text text) = text.now
text_of (reason.OfPattern before pattern) = before.now ++ pattern.now
text_of (reason.Word before word behind) = before.now ++ (shown word.now ++ behind.now)
text_of (reason.WordOfPattern word behind pattern) = shown word.now ++ (behind.now ++ pattern.now)
text_of (reason.Words before first between second behind) =
    before.now ++ (shown first.now ++ (between.now ++ (shown second.now ++ behind.now)))
text_of (reason.Value name value kind) = value_text name.now value.now kind

-- ---- hints

abbrev pub call_words : List (List ℕ)
call_words = codes "create" ∷ codes "open" ∷ codes "open_or_create" ∷ []

-- the words that could stand before `=`, of a pattern with these settings
abbrev pub setting_words : List (Bor (List ℕ) × Kind) → Admitted → List (List ℕ)
setting_words settings admitted =
    ((map (λ row. row.0.now) settings ++ cond admitted.now (codes "now" ∷ []) []) ++ codes "attribute" ∷ [])
    ++ cond admitted.require_key (codes "require_key" ∷ []) []

-- the word that may have been meant, or else which words could stand there
abbrev pub hint_of : (nearest : Option (List ℕ)) → (told : List ℕ) → List ℕ
hint_of (Some word) told = codes "; did you mean " ++ (word ++ codes "?")
hint_of None told = told

-- The nearest of the words is offered.
abbrev pub Offers : (term : List ℕ) (words : List (List ℕ)) (told hint : List ℕ) → Type 0
Offers term words told hint = (nearest : Option (List ℕ)) × Suggests term words nearest × (hint ≡ hint_of nearest told)

-- what is hinted at
abbrev pub IsHint : LineError → List ℕ → Type 0
IsHint (wrong.NoSuchCommand term) hint =
    Offers term.now command_words (codes "; it is list, close, event, pubsub or rr") hint
IsHint (wrong.NoSuchCall term) hint =
    Offers term.now call_words (codes "; it is create, open or open_or_create") hint
IsHint (wrong.NoSuchSetting name pattern settings admitted) hint =
    Offers name.now (setting_words settings.now admitted) [] hint
IsHint _ hint = hint ≡ []

-- The text is what is wrong, and a hint behind it.
abbrev pub IsWrongText : LineError → List ℕ → Type 0
IsWrongText w text = (hint : List ℕ) × IsHint w hint × (text ≡ reason_text w ++ hint)
