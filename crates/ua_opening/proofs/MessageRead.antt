-- A message of one kind, against the reader on lists.
use Rattle.std.specs.Prelude.{◌≡◌, ℕ, List, [], Bool, true, false, cond, nat_eq, Option, Some, None, Result, Ok, Err, IfOk, IsErrOf, ◌⊎◌, ◌↔◌}
use Rattle.std.proofs.Common.{refl, sym, ◌∙◌, ap, subst, arith, eq-eqb, inl, inr}
use Rattle.std.proofs.lemmas.Bool.{eqb-true, ne_eqb}
use Rattle.ua_builtin.specs.Exact.{◌>>=◌}
use Rattle.ua_wire.proofs.Readers.{some_is}
use Rattle.ua_builtin.specs.Format.{Format, IsLawful, Gives, most_levels}
use Rattle.ua_builtin.specs.NodeId.{node_id}
use Rattle.ua_builtin.specs.declared.node_id.NodeId.{NodeId}
use Rattle.ua_wire.specs.declared.fault.ReadFault.{ReadFault}
use Rattle.ua_wire.specs.declared.fault.ReadFault.TheVariants.{NoValue, OutOfMemory}
use Rattle.ua_opening.specs.Header.{service_fault}
use Rattle.ua_opening.specs.SecureChannel.{open_response}
use Rattle.ua_opening.specs.declared.header.ServiceFault.{ServiceFault}
use Rattle.ua_opening.specs.declared.secure_channel.OpenResponse.{OpenResponse}
use Rattle.ua_opening.specs.declared.open.OpenAnswer.{OpenAnswer}
use Rattle.ua_opening.specs.declared.open.OpenAnswer.TheVariants.{Open, Fault}
use Rattle.ua_opening.specs.Open.{IsOpenAnswer, IsNoOpenAnswer, answer_found, answer_read}
use Rattle.ua_opening.specs.Message.{IsBody, IsNoBody, alone, kind_at, message, standard_number, body_of, found_or}
use Rattle.ua_opening.proofs.BodyRead.{whole, unread, body_reads, no_fault, body_is, body_found, none_found}
use Rattle.ua_opening.proofs.HeaderSound.{sound_service_fault}
use Rattle.ua_opening.proofs.SecureChannelLawful.{lawful_open_response}
use Rattle.ua_opening.proofs.MessagesLawful.{lawful_message}

-- a structure behind a NodeId with this number; nothing behind another one
abbrev behind_number : {A : Type 0} → ℕ → Format A → List ℕ → Option ℕ → Option (A × List ℕ)
behind_number number f rest o = kind_at (alone number f) most_levels (o >>= λ n. cond (nat_eq n number) (Some tt) None) rest

same_value : {A : Type 0} (o : Option (A × List ℕ)) → (o >>= λ x. Some (x.0, x.1)) ≡ o
same_value None = refl
same_value (Some x) = refl

reads_id : {A : Type 0} (number : ℕ) (f : Format A) (old rest : List ℕ) (id : NodeId) → node_id.decode old ≡ Some (id, rest)
    → (message number f).decode most_levels old ≡ behind_number number f rest (standard_number id)
reads_id number f old rest id found = ap (λ (o : Option (NodeId × List ℕ)). o >>= λ x. behind_number number f x.1 (standard_number x.0)) found

reads_number : {A : Type 0} (number : ℕ) (f : Format A) (old rest : List ℕ) (id : NodeId) (n : ℕ) → node_id.decode old ≡ Some (id, rest)
    → standard_number id ≡ Some n
    → (message number f).decode most_levels old ≡ behind_number number f rest (Some n)
reads_number number f old rest id n found is = reads_id number f old rest id found ∙ ap (behind_number number f rest) is

reads_message : {A : Type 0} (number : ℕ) (f : Format A) (old rest : List ℕ) (id : NodeId) (n : ℕ) → node_id.decode old ≡ Some (id, rest)
    → standard_number id ≡ Some n → n ≡ number → (message number f).decode most_levels old ≡ f.decode most_levels rest
reads_message number f old rest id n found is same =
    reads_number number f old rest id n found is
    ∙ ap (λ (test : Bool). kind_at (alone number f) most_levels (cond test (Some tt) None) rest) (eq-eqb n number same)
    ∙ same_value (f.decode most_levels rest)

other_number : {A : Type 0} (number : ℕ) (f : Format A) (rest : List ℕ) (o : Option ℕ) → (o ≡ Some number → ⊥) → behind_number number f rest o ≡ None
other_number number f rest None other = refl
other_number number f rest (Some n) other = ap (λ (test : Bool). kind_at (alone number f) most_levels (cond test (Some tt) None) rest)
    (ne_eqb n number (λ e. other (ap Some e)))

-- octets that begin with the NodeId of another encoding, or of none, are no body of this message
pub not_message : {A : Type 0} (number : ℕ) (f : Format A) → IsLawful f → (old rest : List ℕ) (id : NodeId) → node_id.decode old ≡ Some (id, rest)
    → (standard_number id ≡ Some number → ⊥) → IsNoBody (message number f) old
not_message number f lawful old rest id found other = unread (message number f) (lawful_message number lawful) old (reads_id number f old rest id found
    ∙ other_number number f rest (standard_number id) other)

pub no_message_id : {A : Type 0} (number : ℕ) (f : Format A) → IsLawful f → (old new : List ℕ) (e : ReadFault) → Gives node_id.decode old new (Err e)
    → ◌≡◌ {A = Result A ReadFault} (Err e) (Err NoValue) → IsNoBody (message number f) old
no_message_id number f lawful old new NoValue h e = unread (message number f) (lawful_message number lawful) old
    (ap (λ (o : Option (NodeId × List ℕ)). o >>= λ x. behind_number number f x.1 (standard_number x.0)) h)
no_message_id number f lawful old new OutOfMemory h e = absurd (no_fault e)

pub no_message_number : {A : Type 0} (number : ℕ) (f : Format A) → IsLawful f → (old rest : List ℕ) (id : NodeId) → node_id.decode old ≡ Some (id, rest)
    → standard_number id ≡ None → IsNoBody (message number f) old
no_message_number number f lawful old rest id found is = unread (message number f) (lawful_message number lawful) old (reads_id number f old rest id found
    ∙ ap (behind_number number f rest) is)

two_numbers : (o : Option ℕ) (a b : ℕ) → o ≡ Some a → (a ≡ b → ⊥) → o ≡ Some b → ⊥
two_numbers o a b e other f = other (some_is a b (sym e ∙ f))

pub other_message : {A : Type 0} (number : ℕ) (f : Format A) → IsLawful f → (old rest : List ℕ) (id : NodeId) (n : ℕ) → node_id.decode old ≡ Some (id, rest)
    → standard_number id ≡ Some n → (n ≡ number → ⊥) → IsNoBody (message number f) old
other_message number f lawful old rest id n found is other = not_message number f lawful old rest id found (two_numbers (standard_number id) n number is other)

pub message_found : {A : Type 0} (number : ℕ) (f : Format A) → IsLawful f → (old rest : List ℕ) (id : NodeId) (n : ℕ) (r : Result A ReadFault)
    → node_id.decode old ≡ Some (id, rest) → standard_number id ≡ Some n → n ≡ number → IfOk r (λ m. IsBody f m rest)
    → IfOk r (λ m. IsBody (message number f) m old)
message_found number f lawful old rest id n (Ok m) found is same h = whole (message number f) (lawful_message number lawful) old m []
    (reads_message number f old rest id n found is same ∙ body_reads f lawful rest m h) (omega arith)
message_found number f lawful old rest id n (Err e) found is same h = tt

pub message_none : {A : Type 0} (number : ℕ) (f : Format A) → IsLawful f → (old rest : List ℕ) (id : NodeId) (n : ℕ) → node_id.decode old ≡ Some (id, rest)
    → standard_number id ≡ Some n → n ≡ number → IsNoBody f rest → IsNoBody (message number f) old
message_none number f lawful old rest id n found is same none m h =
    none m (whole f lawful rest m [] (sym (reads_message number f old rest id n found is same)
    ∙ body_reads (message number f) (lawful_message number lawful) old m h) (omega arith))

-- ---- the answer to an OpenSecureChannel request

abbrev error_of : {A B : Type 0} → Result A ReadFault → Result B ReadFault
error_of (Ok v) = Err NoValue
error_of (Err e) = Err e

pub no_answer_id : (old new : List ℕ) (e : ReadFault) → Gives node_id.decode old new (Err e) → ◌≡◌ {A = Result OpenAnswer ReadFault} (Err e) (Err NoValue)
    → IsNoOpenAnswer old
no_answer_id old new e h is (Open m) body = no_message_id 449 open_response lawful_open_response old new e h
    (ap (λ (r : Result OpenAnswer ReadFault). error_of {B = OpenResponse} r) is) m body
no_answer_id old new e h is (Fault m) body = no_message_id 397 service_fault sound_service_fault.lawful old new e h
    (ap (λ (r : Result OpenAnswer ReadFault). error_of {B = ServiceFault} r) is) m body

pub no_answer : (old rest : List ℕ) (id : NodeId) → node_id.decode old ≡ Some (id, rest) → (standard_number id ≡ Some 449 → ⊥)
    → (standard_number id ≡ Some 397 → ⊥) → IsNoOpenAnswer old
no_answer old rest id found other more (Open m) body = not_message 449 open_response lawful_open_response old rest id found other m body
no_answer old rest id found other more (Fault m) body = not_message 397 service_fault sound_service_fault.lawful old rest id found more m body

pub no_open : (old rest : List ℕ) (id : NodeId) (e : ReadFault) → node_id.decode old ≡ Some (id, rest) → standard_number id ≡ Some 449
    → (◌≡◌ {A = Result OpenResponse ReadFault} (Err e) (Err NoValue) → IsNoBody open_response rest)
    → ◌≡◌ {A = Result OpenAnswer ReadFault} (Err e) (Err NoValue) → IsNoOpenAnswer old
no_open old rest id e found is none same (Open m) body = message_none 449 open_response lawful_open_response old rest id 449 found is refl
    (none (ap (λ (r : Result OpenAnswer ReadFault). error_of {B = OpenResponse} r) same)) m body
no_open old rest id e found is none same (Fault m) body = not_message 397 service_fault sound_service_fault.lawful old rest id found
    (two_numbers (standard_number id) 449 397 is (λ f. absurd (omega arith))) m body

pub no_fault_answer : (old rest : List ℕ) (id : NodeId) (e : ReadFault) → node_id.decode old ≡ Some (id, rest) → standard_number id ≡ Some 397
    → (◌≡◌ {A = Result ServiceFault ReadFault} (Err e) (Err NoValue) → IsNoBody service_fault rest)
    → ◌≡◌ {A = Result OpenAnswer ReadFault} (Err e) (Err NoValue) → IsNoOpenAnswer old
no_fault_answer old rest id e found is none same (Open m) body = not_message 449 open_response lawful_open_response old rest id found
    (two_numbers (standard_number id) 397 449 is (λ f. absurd (omega arith))) m body
no_fault_answer old rest id e found is none same (Fault m) body = message_none 397 service_fault sound_service_fault.lawful old rest id 397 found is refl
    (none (ap (λ (r : Result OpenAnswer ReadFault). error_of {B = ServiceFault} r) same)) m body

-- ---- one answer a body

by_test : (m n : ℕ) (test : Bool) → nat_eq m n ≡ test → (◌≡◌ {A = Option ℕ} (Some m) (Some n)) ⊎ (◌≡◌ {A = Option ℕ} (Some m) (Some n) → ⊥)
by_test m n true e = inl (ap Some (eqb-true m n e))
by_test m n false e = inr (λ f. let both : true ≡ false = sym (eq-eqb m n (some_is m n f)) ∙ e in absurd cc)

is_or_not : (o : Option ℕ) (n : ℕ) → (o ≡ Some n) ⊎ (o ≡ Some n → ⊥)
is_or_not None n = inr (λ e. absurd cc)
is_or_not (Some m) n = by_test m n (nat_eq m n) refl

not_both_by : (octets rest : List ℕ) (id : NodeId) → node_id.decode octets ≡ Some (id, rest) → (standard_number id ≡ Some 449)
    ⊎ (standard_number id ≡ Some 449 → ⊥)
    → (m : OpenResponse) (w : ServiceFault) → IsBody (message 449 open_response) m octets → IsBody (message 397 service_fault) w octets → ⊥
not_both_by octets rest id found (inl is) m w p q = not_message 397 service_fault sound_service_fault.lawful octets rest id found
    (two_numbers (standard_number id) 449 397 is (λ f. absurd (omega arith))) w q
not_both_by octets rest id found (inr other) m w p q = not_message 449 open_response lawful_open_response octets rest id found other m p

not_both_at : (octets : List ℕ) (o : Option (NodeId × List ℕ)) → node_id.decode octets ≡ o → (m : OpenResponse) (w : ServiceFault)
    → IsBody (message 449 open_response) m octets → IsBody (message 397 service_fault) w octets → ⊥
not_both_at octets None found m w p q = no_message_id 449 open_response lawful_open_response octets octets NoValue found refl m p
not_both_at octets (Some x) found m w p q = not_both_by octets x.1 x.0 found (is_or_not (standard_number x.0) 449) m w p q

not_both : (octets : List ℕ) (m : OpenResponse) (w : ServiceFault) → IsBody (message 449 open_response) m octets → IsBody (message 397 service_fault) w octets
    → ⊥
not_both octets m w p q = not_both_at octets (node_id.decode octets) refl m w p q

-- what a reader of answers answers, by what it says of Ok and of NoValue
pub answer_answers : (octets : List ℕ) (r : Result OpenAnswer ReadFault) → IfOk r (λ a. IsOpenAnswer a octets) → (IsErrOf r NoValue → IsNoOpenAnswer octets)
    → (r ≡ found_or (answer_read octets) NoValue) ⊎ (r ≡ Err OutOfMemory)
answer_answers octets (Ok (Open m)) found none =
    inl (sym
    (ap (λ o. found_or (answer_found o (body_of (message 397 service_fault) octets)) NoValue)
    (body_found (message 449 open_response) (lawful_message 449 lawful_open_response) octets m found)))
answer_answers octets (Ok (Fault m)) found none =
    let other : body_of (message 449 open_response) octets ≡ None = none_found (message 449 open_response) (lawful_message 449 lawful_open_response) octets
    (body_of (message 449 open_response) octets) refl (λ w h. not_both octets w m h found) in
    inl (sym (ap (λ o. found_or (answer_found o (body_of (message 397 service_fault) octets)) NoValue) other
    ∙ ap (λ o. found_or (answer_found None o) NoValue)
    (body_found (message 397 service_fault) (lawful_message 397 sound_service_fault.lawful) octets m found)))
answer_answers octets (Err NoValue) found none =
    let first : body_of (message 449 open_response) octets ≡ None = none_found (message 449 open_response) (lawful_message 449 lawful_open_response) octets
    (body_of (message 449 open_response) octets) refl (λ w h. none refl (Open w) h) in
    let second : body_of (message 397 service_fault) octets ≡ None = none_found (message 397 service_fault) (lawful_message 397 sound_service_fault.lawful)
    octets (body_of (message 397 service_fault) octets) refl (λ w h. none refl (Fault w) h) in
    inl (sym (ap (λ o. found_or (answer_found o (body_of (message 397 service_fault) octets)) NoValue) first
    ∙ ap (λ o. found_or (answer_found None o) NoValue) second))
answer_answers octets (Err OutOfMemory) found none = inr refl

-- ---- what reading on lists gives

pub body_of-found : {A : Type 0} (f : Format A) → IsLawful f → (octets : List ℕ) (m : A) → ((body_of f octets ≡ Some m) ↔ IsBody f m octets)
body_of-found f lawful octets m = ((λ e. body_is f lawful octets m e), (λ h. body_found f lawful octets m h))

pub answer_read-found : (octets : List ℕ) (a : OpenAnswer) → IsOpenAnswer a octets → answer_read octets ≡ Some a
answer_read-found octets (Open m) h =
    ap (λ o. answer_found o (body_of (message 397 service_fault) octets))
    (body_found (message 449 open_response) (lawful_message 449 lawful_open_response) octets m h)
answer_read-found octets (Fault m) h =
    let other : body_of (message 449 open_response) octets ≡ None =
    none_found (message 449 open_response) (lawful_message 449 lawful_open_response) octets (body_of (message 449 open_response) octets) refl
    (λ w g. not_both octets w m g h) in
    ap (λ o. answer_found o (body_of (message 397 service_fault) octets)) other
    ∙ ap (λ o. answer_found None o) (body_found (message 397 service_fault) (lawful_message 397 sound_service_fault.lawful) octets m h)

answer_at : (octets : List ℕ) (a : OpenAnswer) (o : Option OpenResponse) (u : Option ServiceFault) → body_of (message 449 open_response) octets ≡ o
    → body_of (message 397 service_fault) octets ≡ u → answer_found o u ≡ Some a → IsOpenAnswer a octets
answer_at octets a (Some m) u e f is = subst (λ (x : OpenAnswer). IsOpenAnswer x octets) (some_is (Open m) a is)
    (body_is (message 449 open_response) (lawful_message 449 lawful_open_response) octets m e)
answer_at octets a None (Some m) e f is = subst (λ (x : OpenAnswer). IsOpenAnswer x octets) (some_is (Fault m) a is)
    (body_is (message 397 service_fault) (lawful_message 397 sound_service_fault.lawful) octets m f)
answer_at octets a None None e f is = absurd cc

pub answer_read-is : (octets : List ℕ) (a : OpenAnswer) → ((answer_read octets ≡ Some a) ↔ IsOpenAnswer a octets)
answer_read-is octets a = (
  (λ e. answer_at octets a (body_of (message 449 open_response) octets) (body_of (message 397 service_fault) octets) refl refl e),
  (λ h. answer_read-found octets a h),
)
