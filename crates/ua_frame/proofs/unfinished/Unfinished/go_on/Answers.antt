use Rattle.std.proofs.Common.{◌≡◌, ◌-◌, ◌++◌, ◌∙◌, List, ℕ, length, min, sym, ap, arith}
use Rattle.ua_frame.specs.Frames.{size_of}
use Rattle.ua_frame.proofs.Parts.{good_header, starved, goes_on, completes}
use Rattle.ua_frame.proofs.unfinished.Unfinished.go_on.Goals as goal

pub returns-in_default-clause-makes : goal.returns-in_default-clause-makes
returns-in_default-clause-makes c =
    let u = c.args.self.now in
    let kept = c.requires.kept in
    (starved u.gate u.header u.body.items c.args.piece.now u.have kept.eight c.requires.header (kept.good c.requires.header), c.new.ensures.none)

pub returns-in_default-from_vec-clause-makes : goal.returns-in_default-from_vec-clause-makes
returns-in_default-from_vec-clause-makes c =
    let u = c.args.self.now in
    let kept = c.requires.kept in (
      starved u.gate u.header u.body.items c.args.piece.now u.have kept.eight c.requires.header (kept.good c.requires.header),
      ap (λ (b : _). b.items) c.replace-whole.ensures.after ∙ c.new-2.ensures.items,
    )

pub make_frame-requires-clause-known : goal.make_frame-requires-clause-known
make_frame-requires-clause-known c = (good_header c.args.self.now.gate c.args.self.now.header (c.requires.kept.good c.requires.header)).0

pub returns-then-len-clause-makes : goal.returns-then-len-clause-makes
returns-then-len-clause-makes c =
    let u = c.args.self.now in
    let kept = c.requires.kept in
    let count : c.in-Ok.n ≡ min (size_of u.header - 8 - length u.body.items) (length c.args.piece.now) =
    omega (arith, c.in-Ok.ensures.count, c.read_size.ensures) in
    goes_on u.gate u.header u.body.items c.args.piece.now u.have kept.eight c.requires.header (kept.good c.requires.header) c.in-Ok.n count
    (kept.part c.requires.header) c.extend.new.body.items c.in-Ok.ensures.added (omega (arith, c.if-len.true, c.read_size.ensures))

pub returns-clause-makes : goal.returns-clause-makes
returns-clause-makes c =
    let u = c.args.self.now in
    let kept = c.requires.kept in
    let count : c.in-Ok.n ≡ min (size_of u.header - 8 - length u.body.items) (length c.args.piece.now) =
    omega (arith, c.in-Ok.ensures.count, c.read_size.ensures) in
    let body : c.in-Ok-from_vec.body ≡ c.extend.new.body.items = c.in-Ok-from_vec.ensures.ok ∙ ap (λ (b : _). b.items) c.replace-whole.ensures.value in
    let octets = ap (λ (t : List ℕ). u.header ++ t) (sym body) ∙ c.make_frame.ensures.octets in (
      completes u.gate u.header u.body.items c.args.piece.now u.have kept.eight c.requires.header (kept.good c.requires.header) c.in-Ok.n count
          (kept.part c.requires.header) c.extend.new.body.items c.in-Ok.ensures.added c.make_frame.result (omega (arith, c.if-len.false, c.read_size.ensures))
          octets c.make_frame.ensures.sized,
      ap (λ (b : _). b.items) c.replace-whole.ensures.after ∙ c.new-2.ensures.items,
    )
