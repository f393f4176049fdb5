use Rattle.std.proofs.Common.{◌≡◌, ◌++◌, take, string_bytes}
use Rattle.std.specs.List.{flat_map}
use Rattle.wulameron_view.specs.ShowTexts.{setting_line}
use Rattle.wulameron_view.proofs.show_text.write_settings.Given as goal

abbrev pub invariant-loop-setting : goal.invariant-loop-setting
invariant-loop-setting l = string_bytes l.text ≡ string_bytes l.fn.text ++ flat_map setting_line (take l.setting-index l.settings)
