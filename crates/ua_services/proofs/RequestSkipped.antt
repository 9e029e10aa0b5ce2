-- A request that is passed over, against the reader on lists.
use Rattle.std.specs.Prelude.{◌≡◌, ℕ, ◌<◌, ◌≤◌, List, length, Option, Some, None, Result, Ok, Err, ◌⊎◌}
use Rattle.std.proofs.Common.{refl, sym, ◌∙◌, ap, subst, inl, inr}
use Rattle.ua_builtin.specs.Exact.{◌>>=◌, image_read, skipped}
use Rattle.ua_builtin.specs.Format.{Gives, most_levels}
use Rattle.ua_wire.specs.declared.fault.ReadFault.{ReadFault}
use Rattle.ua_wire.specs.declared.fault.ReadFault.TheVariants.{NoValue, OutOfMemory as NoMemory}
use Rattle.ua_wire.proofs.Readers.{some_is}
use Rattle.ua_opening.specs.Message.{kind_at}
use Rattle.ua_services.specs.Request.{requests, kind_of_request, read_as_request, kind_alone, RequestStructure}
use Rattle.ua_services.specs.declared.request.Request.{Request}
use Rattle.ua_services.specs.declared.request.RequestKind.{RequestKind}
use Rattle.ua_services.specs.declared.fault.RequestFault.{RequestFault}
use Rattle.ua_services.specs.declared.fault.RequestFault.TheVariants.{OutOfMemory}
use Rattle.ua_services.proofs.RequestLawful.{is_request}
use Rattle.ua_services.proofs.RequestRead.{Reads, IsUnread, kind_fails, kind_left, kind_whole}

-- what is passed over answers the kind of this, or that memory was refused
abbrev pub Skips : Result RequestKind RequestFault → Result Request RequestFault → Type 0
Skips result expected = (result ≡ kind_alone expected) ⊎ (result ≡ Err OutOfMemory)

pub skips : (r expected : Result Request RequestFault) → Reads r expected → Skips (kind_alone r) expected
skips r expected (inl h) = inl (ap kind_alone h)
skips r expected (inr h) = inr (ap kind_alone h)

-- ---- what stands behind an image

pub made_of : {A B : Type 0} (f : A → B) (found : Option (A × List ℕ)) (y : B) (new : List ℕ) → ◌>>=◌ {B = B × List ℕ} found (λ x. Some (f x.0, x.1))
    ≡ Some (y, new) → (x : A) × (found ≡ Some (x, new)) × (f x ≡ y)
made_of {A = A} {B = B} f None y new e = absurd cc
made_of {A = A} {B = B} f (Some x) y new e =
    let same = some_is (f x.0, x.1) (y, new) e in
    (x.0, ap (λ (t : List ℕ). Some (x.0, t)) (ap (λ (p : B × List ℕ). p.1) same), ap (λ (p : B × List ℕ). p.0) same)

none_of : {A B : Type 0} (f : A → B) (found : Option (A × List ℕ)) → ◌>>=◌ {B = B × List ℕ} found (λ x. Some (f x.0, x.1)) ≡ None → found ≡ None
none_of f None e = refl
none_of f (Some x) e = absurd cc

-- what an image fails by is what its values fail by
pub image_err : {A B : Type 0} (f : A → B) (r : List ℕ → Option (A × List ℕ)) (old new : List ℕ) (e : ReadFault) → Gives (image_read f r) old new (Err e)
    → Gives r old new (Err e)
image_err f r old new NoValue h = none_of f (r old) h
image_err f r old new NoMemory h = tt

-- ---- a request behind its NodeId

-- the reader of a kind that is passed over is that of its structure
same_skip : {A M : Type 0} (f : A → M) (o : Option (A × List ℕ))
    → ◌>>=◌ {B = (Unit {0}) × List ℕ} (◌>>=◌ {B = M × List ℕ} o (λ x. Some (f x.0, x.1))) (λ x. Some (tt, x.1)) ≡ ◌>>=◌ {B = (Unit {0}) × List ℕ} o
    (λ x. Some (tt, x.1))
same_skip {M = M} f None = refl
same_skip {M = M} f (Some x) = refl

pub skips_made : {A M : Type 0} (f : A → M) (r : List ℕ → Option (A × List ℕ)) (old new : List ℕ) (result : Result (Unit {0}) ReadFault)
    → Gives (skipped r) old new result → Gives (skipped (image_read f r)) old new result
skips_made f r old new (Ok done) h = same_skip f (r old) ∙ h
skips_made f r old new (Err NoValue) h = same_skip f (r old) ∙ h
skips_made f r old new (Err NoMemory) h = tt

pub skips_kind : (kind k : RequestKind) (levels : ℕ) (old new : List ℕ) (result : Result (Unit {0}) ReadFault) → kind ≡ k
    → Gives (skipped ((requests.format k).decode levels)) old new result → Gives (skipped (kind_at requests levels (Some kind))) old new result
skips_kind kind k levels old new result is h = rw is (skips_made (requests.make k) ((requests.format k).decode levels) old new result h)

kind_made : (k : RequestKind) (old new : List ℕ) (m : Request) → kind_at requests most_levels (Some k) old ≡ Some (m, new) → kind_of_request m ≡ k
kind_made k old new m e =
    let s = made_of (requests.make k) ((requests.format k).decode most_levels old) m new e in
    sym (ap kind_of_request s.2) ∙ ap (λ (p : (j : RequestKind) × RequestStructure j). p.0) ((is_request k).forth s.0)

pub skip_fails : (k : RequestKind) (head old new : List ℕ) (e : ReadFault) (fault : RequestFault) → head ≡ old
    → Gives (skipped (kind_at requests most_levels (Some k))) old new (Err e) → IsUnread head e fault
    → Skips (Err fault) (read_as_request k old)
skip_fails k head old new e fault same h is =
    skips (Err fault) (read_as_request k old)
    (kind_fails k head old new e fault same (image_err (λ (m : Request). tt) (kind_at requests most_levels (Some k)) old new e h) is)

pub skip_left : (k : RequestKind) (head old new : List ℕ) (fault : RequestFault) → head ≡ old → skipped (kind_at requests most_levels (Some k)) old
    ≡ Some (tt, new) → 0 < length new → IsUnread head NoValue fault
    → Skips (Err fault) (read_as_request k old)
skip_left k head old new fault same h more is =
    let w = made_of (λ (m : Request). tt) (kind_at requests most_levels (Some k) old) tt new h in
    skips (Err fault) (read_as_request k old) (kind_left k head old new w.0 fault same w.1 more is)

pub skip_whole : (k : RequestKind) (old new : List ℕ) → skipped (kind_at requests most_levels (Some k)) old ≡ Some (tt, new) → length new ≤ 0
    → Skips (Ok k) (read_as_request k old)
skip_whole k old new h none =
    let w = made_of (λ (m : Request). tt) (kind_at requests most_levels (Some k) old) tt new h in
    subst (λ (j : RequestKind). Skips (Ok j) (read_as_request k old)) (kind_made k old new w.0 w.1)
    (skips (Ok w.0) (read_as_request k old) (kind_whole k old new w.0 w.1 none))

-- ---- the whole body

pub body_skipped : (r : Result RequestKind RequestFault) (all here : Result Request RequestFault) → all ≡ here → Skips r here → Skips r all
body_skipped r all here e (inl h) = inl (h ∙ ap kind_alone (sym e))
body_skipped r all here e (inr h) = inr h
