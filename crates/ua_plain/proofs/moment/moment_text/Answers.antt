use Rattle.std.proofs.Common.{◌≡◌, arith}
use Rattle.std.proofs.lemmas.Int.{ints}
use Rattle.jiff_fmt.proofs.RoundTrip.{parse_timestamp-printed}
use Rattle.ua_plain.specs.Moment.{nanos_of_ticks}
use Rattle.ua_plain.proofs.Moments.{moment_back, moment_form, moment_word}
use Rattle.ua_plain.proofs.moment.moment_text.Goals as goal

same : (c : goal.After-timestamp_text) → c.in-Ok.time.nanosecond ≡ nanos_of_ticks c.args.moment.ticks
same c = omega (arith, ints, c.in-Ok.ensures.value)

pub returns-clause-form : goal.returns-clause-form
returns-clause-form c = moment_form c.new.result c.in-Ok.time c.args.moment.ticks c.timestamp_text.result.bytes c.new.ensures (same c) c.timestamp_text.ensures

pub returns-clause-reads : goal.returns-clause-reads
returns-clause-reads c =
    moment_back c.args.moment.ticks c.in-Ok.time.nanosecond c.timestamp_text.result.bytes (same c)
    (parse_timestamp-printed c.new.result c.in-Ok.time c.timestamp_text.result.bytes c.new.ensures c.timestamp_text.ensures)

pub returns-clause-word : goal.returns-clause-word
returns-clause-word c =
    let form = moment_form c.new.result c.in-Ok.time c.args.moment.ticks c.timestamp_text.result.bytes c.new.ensures (same c) c.timestamp_text.ensures in
    moment_word form.0 c.timestamp_text.result.bytes form.2
