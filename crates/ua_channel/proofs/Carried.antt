-- What frames of a kind carry.
use Rattle.std.proofs.Common.{◌≡◌, ◌∙◌, Some, ap}
use Rattle.ua_frame.specs.declared.frame.Frame.{Frame}
use Rattle.ua_frame.specs.declared.kind.Kind.{Kind}
use Rattle.ua_frame.specs.declared.kind.Kind.TheVariants.{Hel, Msg, Opn, Clo}
use Rattle.ua_frame.specs.declared.kind.Kind.TheVariants as kind
use Rattle.ua_frame.specs.Hello.{hello_in}
use Rattle.ua_frame.specs.Messages.{ack, error}
use Rattle.ua_frame.specs.Whole.{whole_of}
use Rattle.ua_chunk.specs.declared.chunk.Chunk.{Chunk}
use Rattle.ua_chunk.specs.Layout.{chunk_in}
use Rattle.ua_channel.specs.Content.{sends, closes, opening_of, content_by, content}
use Rattle.ua_channel.specs.Content.Content.{Greets, Acks, Fails, Opens, Sends, Closes}

pub content_hel : (f : Frame) → f.kind ≡ Hel → content f ≡ Greets (hello_in f.body)
unfolding content
content_hel f e = ap (λ (k : Kind). content_by k f) e

pub content_ack : (f : Frame) → f.kind ≡ kind.Ack → content f ≡ Acks (whole_of ack f.body)
unfolding content
content_ack f e = ap (λ (k : Kind). content_by k f) e

pub content_opn : (f : Frame) → f.kind ≡ Opn → content f ≡ Opens (opening_of f.body)
unfolding content
content_opn f e = ap (λ (k : Kind). content_by k f) e

pub content_msg : (f : Frame) (c : Chunk) → f.kind ≡ Msg → chunk_in f ≡ Some c → content f ≡ Sends c
unfolding content
content_msg f c e h = ap (λ (k : Kind). content_by k f) e ∙ ap sends h

pub content_clo : (f : Frame) (c : Chunk) → f.kind ≡ Clo → chunk_in f ≡ Some c → content f ≡ Closes c
unfolding content
content_clo f c e h = ap (λ (k : Kind). content_by k f) e ∙ ap closes h

pub content_err : (f : Frame) → f.kind ≡ kind.Err → content f ≡ Fails (whole_of error f.body)
unfolding content
content_err f e = ap (λ (k : Kind). content_by k f) e
