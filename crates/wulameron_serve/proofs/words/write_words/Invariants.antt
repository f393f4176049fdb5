use Rattle.std.proofs.Common.{◌≡◌, ◌++◌, take, codes, string_bytes}
use Rattle.std.specs.List.{flat_map}
use Rattle.wulameron_serve.specs.Words.{word_of}
use Rattle.wulameron_serve.proofs.words.write_words.Given as goal

abbrev pub invariant-loop-word : goal.invariant-loop-word
invariant-loop-word l =
    string_bytes l.text ≡ string_bytes l.fn.text ++ flat_map (λ word. codes " " ++ word_of word.now) (take l.word-index l.words)
