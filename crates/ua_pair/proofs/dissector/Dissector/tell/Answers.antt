use Rattle.std.proofs.Common.{List, ℕ, ◌≡◌, ◌++◌, ◌∙◌, Some, ap, append-nil, inr, string_bytes, subst}
use Rattle.ua_builtin.specs.Reasons.{first_reason}
use Rattle.ua_pair.specs.Refused.{frame_reasons}
use Rattle.ua_pair.specs.declared.options.DissectOptions.{DissectOptions}
use Rattle.ua_pair.specs.Telling.{ArePendingLines}
use Rattle.ua_pair.proofs.Dissections.{told_accepts}
use Rattle.ua_pair.proofs.dissector.Dissector.tell.Goals as goal

pub returns-in-Some-clause-told : goal.returns-in-Some-clause-told
returns-in-Some-clause-told c = λ options before g place more pending.
    let same = subst (λ (o : DissectOptions). ArePendingLines o c.in-Ok.pending more) c.in-Ok.ensures.options pending in
    let judged = c.in-Ok.ensures.judged before more g.holds.teller place same in
    told_accepts c.args.self.now c.push_frame.new.self c.in-Some.place c.frame_size-size.result options before c.args.frame _
    (string_bytes c.push_frame.new.lines ++ more)
    g place judged.0 judged.1 c.clear.ensures.bytes (c.in-Ok.ensures.stands before g.holds.teller) c.in-Ok.ensures.options c.frame_size-size.ensures
    c.in-Some.ensures.1

pub returns-in-Err-Refused-clause-told : goal.returns-in-Err-Refused-clause-told
returns-in-Err-Refused-clause-told c = λ options before g place more none.
    let judged : first_reason (frame_reasons c.args.self.now.teller.options.side before c.args.frame) ≡ Some c.in-Err-Refused.code.code =
    rw c.in-Err-Refused.field-0-is at (c.in-Err-Refused.ensures.judged before more g.holds.teller place tt) in
    inr (record {
      code = c.in-Err-Refused.code.code;
      refused = subst (λ (x : DissectOptions). first_reason (frame_reasons x.side before c.args.frame) ≡ Some c.in-Err-Refused.code.code) g.options_are
          judged;
      lines_are = ap (λ (t : List ℕ). string_bytes c.clear-in-Err-Refused.new.self ++ t) none ∙ append-nil _ ∙ c.clear-in-Err-Refused.ensures.bytes;
      stopped = record {
        state = c.stop.ensures.state;
        options_are = c.stop.ensures.options ∙ c.in-Err-Refused.ensures.options ∙ g.options_are;
        nothing = c.stop.ensures.nothing;
      };
      place = c.stop.ensures.place ∙ place;
    })
