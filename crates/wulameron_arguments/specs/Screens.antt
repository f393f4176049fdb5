-- How texts for people are printed.
use Rattle.std.specs.Prelude.{ℕ, Bool, true, false, ◌&&◌, ◌||◌, not, List, Option, Some, None, bytes_eq, codes, nat_eq}
use Rattle.std.specs.Prelude.{if◌then◌else◌}
use Rattle.std.specs.List.{starts_with}
use Rattle.wulameron_arguments.specs.declared.screen.Screen.{Screen}

-- always, never, or else on a terminal, unless the environment says that there are to be no colours
abbrev pub is_coloured : Screen → (when : Option (List ℕ)) → Bool
is_coloured s None = s.is_terminal && not s.no_colour
is_coloured s (Some word) =
    if bytes_eq word (codes "always") then true
    else (if bytes_eq word (codes "never") then false else s.is_terminal && not s.no_colour)

-- the path is that of a terminal
abbrev pub is_of_terminal : (path : List ℕ) → Bool
is_of_terminal path = starts_with nat_eq path (codes "/dev/pts/") || starts_with nat_eq path (codes "/dev/tty")
