use denote.Shadow.{shadow}
use denote.Text.{Utf8}
use Rattle.std.proofs.Common.{◌≡◌, ◌≤◌, length}
use Rattle.negotiate_lines.specs.Terms.{terms_of}
use Rattle.negotiate_lines.proofs.term.next_term.Given as goal

abbrev pub invariant-loop-part : goal.invariant-loop-part
invariant-loop-part l = record {
  text : shadow (Utf8 l.rest);
  same : terms_of l.fn.text ≡ terms_of l.rest;
  shorter : length l.rest ≤ length l.fn.text;
}

abbrev pub decreases-loop-part : goal.decreases-loop-part
decreases-loop-part l = length l.rest
