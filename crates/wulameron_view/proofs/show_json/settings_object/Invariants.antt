use Rattle.std.proofs.Common.{◌≡◌, drop}
use Rattle.serde_json.specs.Data.{no_members}
use Rattle.serde_json.specs.View.{members_view}
use Rattle.wulameron_view.specs.Data.{with_settings}
use Rattle.wulameron_view.proofs.show_json.settings_object.Given as goal

abbrev pub invariant-loop-setting : goal.invariant-loop-setting
invariant-loop-setting l =
    with_settings (drop l.setting-index l.settings) (members_view l.members.entries) ≡ with_settings l.settings no_members
