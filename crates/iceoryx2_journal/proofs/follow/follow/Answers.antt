use Rattle.std.proofs.Common.{refl}
use Rattle.iceoryx2_journal.specs.Follow.{mark}
use Rattle.iceoryx2_journal.proofs.Following.{same_entry}
use Rattle.iceoryx2_journal.proofs.follow.follow.Goals as goal

pub returns-in-MakeTag : goal.returns-in-MakeTag
returns-in-MakeTag c = same_entry c.args.entry.now _ c.make_tag.result c.args.world.now c.make_tag.new.world c.in-MakeTag.is c.make_tag.ensures

pub returns-in-RemoveTag : goal.returns-in-RemoveTag
returns-in-RemoveTag c = same_entry c.args.entry.now _ c.remove_tag.result c.args.world.now c.remove_tag.new.world c.in-RemoveTag.is c.remove_tag.ensures

pub returns-in-Lock : goal.returns-in-Lock
returns-in-Lock c = same_entry c.args.entry.now _ c.lock.result c.args.world.now c.lock.new.world c.in-Lock.is c.lock.ensures

pub returns-in-MakeSegment : goal.returns-in-MakeSegment
returns-in-MakeSegment c = same_entry c.args.entry.now _ c.make_segment.result c.args.world.now c.make_segment.new.world c.in-MakeSegment.is c.make_segment.ensures

pub returns-in-RemoveSegment : goal.returns-in-RemoveSegment
returns-in-RemoveSegment c = same_entry c.args.entry.now _ c.remove_segment.result c.args.world.now c.remove_segment.new.world c.in-RemoveSegment.is c.remove_segment.ensures

pub returns-in-RemoveDescription : goal.returns-in-RemoveDescription
returns-in-RemoveDescription c = same_entry c.args.entry.now _ c.remove_description.result c.args.world.now c.remove_description.new.world c.in-RemoveDescription.is c.remove_description.ensures

pub returns-in-Publish : goal.returns-in-Publish
returns-in-Publish c = same_entry c.args.entry.now _ c.publish.result c.args.world.now c.publish.new.world c.in-Publish.is c.publish.ensures

pub returns-in-OpenSegment : goal.returns-in-OpenSegment
returns-in-OpenSegment c = same_entry c.args.entry.now _ c.open_segment.result c.args.world.now c.open_segment.new.world c.in-OpenSegment.is c.open_segment.ensures

pub returns-in-Release : goal.returns-in-Release
returns-in-Release c = same_entry c.args.entry.now _ c.release.result c.args.world.now c.release.new.world c.in-Release.is c.release.ensures

pub returns-in-Spend : goal.returns-in-Spend
returns-in-Spend c = same_entry c.args.entry.now _ c.spend.result c.args.world.now c.spend.new.world c.in-Spend.is c.spend.ensures

pub returns-in-Moved : goal.returns-in-Moved
returns-in-Moved c = mark c.in-Moved.is refl
