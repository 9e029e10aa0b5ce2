use Rattle.std.proofs.Common.{◌++◌, [], ◌∷◌, sym, ap, ◌∙◌, append-nil}
use Rattle.std.specs.List.{concat}
use Rattle.ua_chunk.specs.declared.flag.Flag.{Flag}
use Rattle.ua_chunk.specs.declared.pending.Pending.{Pending}
use Rattle.ua_chunk.specs.Assembling.{given_kept_by, put_back_by}
use Rattle.ua_chunk.specs.Item.Item.{Whole}
use Rattle.ua_chunk.proofs.assembler.Assembler.add.Goals as goal

pub returns-in_ok-add-in-F-clause-given : goal.returns-in_ok-add-in-F-clause-given
returns-in_ok-add-in-F-clause-given c =
    ap (λ (p : Pending). Whole c.args.chunk.request (concat p.message) ∷ []) c.in_ok-add-in-F.ensures
    ∙ ap (λ (f : Flag). given_kept_by f c.args.pending c.args.chunk) (sym c.in-F.is)

pub returns-in_ok-add-in-F-clause-parts : goal.returns-in_ok-add-in-F-clause-parts
returns-in_ok-add-in-F-clause-parts c = ap (λ (p : Pending). p.message) c.in_ok-add-in-F.ensures

pub returns-in_ok-add-in-F-clause-pending : goal.returns-in_ok-add-in-F-clause-pending
returns-in_ok-add-in-F-clause-pending c =
    sym (append-nil c.args.self.now.pending)
    ∙ ap (λ (f : Flag). c.args.self.now.pending ++ put_back_by f c.args.pending c.args.chunk) (sym c.in-F.is)

pub returns-in_ok-put-in-C-clause-given : goal.returns-in_ok-put-in-C-clause-given
returns-in_ok-put-in-C-clause-given c = ap (λ (f : Flag). given_kept_by f c.args.pending c.args.chunk) (sym c.in-C.is)

pub returns-in_ok-put-in-C-clause-pending : goal.returns-in_ok-put-in-C-clause-pending
returns-in_ok-put-in-C-clause-pending c =
    c.in_ok-put-in-C.ensures.ok
    ∙ ap (λ (p : Pending). c.args.self.now.pending ++ p ∷ []) c.in_ok-add-in-C.ensures
    ∙ ap (λ (f : Flag). c.args.self.now.pending ++ put_back_by f c.args.pending c.args.chunk) (sym c.in-C.is)

pub returns-in_ok-abort-in-A-clause-pending : goal.returns-in_ok-abort-in-A-clause-pending
returns-in_ok-abort-in-A-clause-pending c =
    sym (append-nil c.args.self.now.pending)
    ∙ ap (λ (f : Flag). c.args.self.now.pending ++ put_back_by f c.args.pending c.args.chunk) (sym c.in-A.is)
