-- What holds of all byte forms of entries.
use Rattle.std.specs.Prelude.{ℕ, ◌≡◌, ◌<◌, List, [], ◌++◌, length, All}
use Rattle.iceoryx2_log.specs.declared.entry.Entry.{Entry}
use Rattle.iceoryx2_log.specs.Form.{IsForm, IsCutShort}

-- A form is a list of bytes.
abbrev pub EachFormIsBytes : Type 0
EachFormIsBytes = (e : Entry) (bytes : List ℕ) → IsForm e bytes → All (λ b. b < 256) bytes

-- An entry has one form.
abbrev pub OneFormEach : Type 0
OneFormEach = (e : Entry) (bytes other : List ℕ) → IsForm e bytes → IsForm e other → bytes ≡ other

-- Two entries with one form are equal.
abbrev pub OneEntryEach : Type 0
OneEntryEach = (bytes : List ℕ) (c d : Entry) → IsForm c bytes → IsForm d bytes → c ≡ d

-- No form is the front of a longer one.
abbrev pub NoFrontOfAnother : Type 0
NoFrontOfAnother = (bytes rest : List ℕ) (c d : Entry) → IsForm c bytes → IsForm d (bytes ++ rest) → rest ≡ []

-- A form of which something is missing at the end is cut short.
abbrev pub EachCutIsShort : Type 0
EachCutIsShort = (front rest : List ℕ) (e : Entry) → IsForm e (front ++ rest) → 0 < length rest → IsCutShort front
