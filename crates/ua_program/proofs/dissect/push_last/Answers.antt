use Rattle.std.proofs.Common.{◌≡◌, ◌⊎◌, inl, inr, ◌∙◌, sym}
use Rattle.std.specs.Prelude.{string_bytes, None, false}
use Rattle.ua_program.proofs.Readings.{ends_file, none_left, whole_octets}
use Rattle.ua_program.proofs.dissect.push_last.Goals.{else-asked-via-then-asked+else-not-is_whole, else-asked-via-else-asked}
use Rattle.ua_program.proofs.dissect.push_last.Goals as goal

pub returns-clause-lines : goal.returns-clause-lines
returns-clause-lines c = λ content told s.
    let asked = c.args.asked.now in
    let half = c.args.digits.now.half in
    let whole : (asked.hex ≡ false) ⊎ (half ≡ None) = elim c.else-asked.branch [
      | else-asked-via-then-asked+else-not-is_whole w ↦ inr (none_left half cc)
      | else-asked-via-else-asked w ↦ inl cc
    ] in
    ends_file asked.hex asked.options content s.octets told (string_bytes c.args.text.now) (string_bytes c.finish.new.out)
    (whole_octets asked.hex half content s.octets whole s.holds)
    (c.in_ok-finish.ensures.last asked.options s.octets told s.stands)

pub returns-clause-whole : goal.returns-clause-whole
returns-clause-whole c = λ content told s.
    let asked = c.args.asked.now in
    let half = c.args.digits.now.half in
    let whole : (asked.hex ≡ false) ⊎ (half ≡ None) = elim c.else-asked.branch [
      | else-asked-via-then-asked+else-not-is_whole w ↦ inr (none_left half cc)
      | else-asked-via-else-asked w ↦ inl cc
    ] in
    whole_octets asked.hex half content s.octets whole s.holds
