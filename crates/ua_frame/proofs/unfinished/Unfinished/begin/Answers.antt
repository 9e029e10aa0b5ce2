use Rattle.std.proofs.Common.{◌≡◌, ◌∙◌, length, sym, ap, arith}
use Rattle.ua_frame.specs.Frames.{header_fault}
use Rattle.ua_frame.proofs.Parts.{good_header, refused}
use Rattle.ua_frame.proofs.unfinished.Unfinished.begin.Goals as goal

pub returns-in-Some-clause-fails : goal.returns-in-Some-clause-fails
returns-in-Some-clause-fails c =
    let u = c.args.self.now in
    refused u.header c.fill-n.new.header u.body.items c.args.piece.now u.have c.fill-n.result c.requires.kept.eight (c.fill-n.auto.header
    ∙ c.requires.kept.eight) (c.requires.kept.short c.requires.header) c.requires.header c.fill-n.ensures.count c.fill-n.ensures.filled
    c.if-self-lt-HEADER_LEN.false u.gate c.in-Some.fault (sym c.judge.ensures ∙ c.in-Some.is)

pub returns-clause-kept : goal.returns-clause-kept
returns-clause-kept c =
    let good : header_fault c.args.self.now.gate c.fill-n.new.header ≡ _ = sym c.judge.ensures ∙ c.in_default.is in
    let none = c.requires.kept.short c.requires.header in
    record {
      eight = c.fill-n.auto.header ∙ c.requires.kept.eight;
      fits = omega (arith, c.fill-n.ensures.count, c.requires.kept.eight);
      short = λ _. none;
      good = λ _. good;
      part = λ _. omega (arith, ap length none, (good_header c.args.self.now.gate c.fill-n.new.header good).1);
    }
