-- How replies come to the places of their requests.
use Rattle.std.specs.Prelude.{◌≡◌, ◌+◌, ◌<◌, ◌++◌, ℕ, zero, suc, Bool, true, false, cond, List, [], ◌∷◌, length, Option, Some, None}
use Rattle.std.proofs.Common.{refl, ◌∙◌, ap, subst, eqb, get_or, set, rules, append-nil, arith, add-zero}
use Rattle.std.proofs.lemmas.Bool.{eqb-true}
use Rattle.ua_channel.specs.ClientTold.{ClientTold}
use Rattle.ua_services.specs.Request.{kind_of_request}
use Rattle.ua_services.specs.declared.request.Request.{Request}
use Rattle.ua_services.specs.declared.request.RequestKind.{RequestKind}
use Rattle.ua_client.specs.Replies.{IsReplyBy, IsMisanswer, IsMisanswered, IsSlot, AreSlots, IsRequestAt, IsOfNone}
use Rattle.ua_client.specs.Told.{is_told_of, told_of, IsFirstOf}
use Rattle.ua_client.proofs.Hearsay.{told-more}
use Rattle.ua_client.specs.declared.reply.Reply.{Reply}
use Rattle.ua_client.specs.declared.reply.Reply.TheVariants.{Response as Responds, Aborted}

-- ---- one thing more that was told

pub told-other : (id : ℕ) (told : List ClientTold) (t : ClientTold) → is_told_of id t ≡ false → told_of id (told ++ t ∷ []) ≡ told_of id told
told-other id told t other =
    told-more id told t
    ∙ (ap (λ (b : Bool). told_of id told ++ cond b (t ∷ []) []) other ∙ append-nil (told_of id told))

pub told-own : (id : ℕ) (told : List ClientTold) (t : ClientTold) → is_told_of id t ≡ true → told_of id told ≡ [] → told_of id (told ++ t ∷ []) ≡ t ∷ []
told-own id told t own none =
    told-more id told t
    ∙ (ap (λ (b : Bool). told_of id told ++ cond b (t ∷ []) []) own ∙ ap (λ (ts : List ClientTold). ts ++ t ∷ []) none)

-- ---- slots

slot-other : (request : Request) (id : ℕ) (told : List ClientTold) (t : ClientTold) (slot : Option Reply) → is_told_of id t ≡ false
    → IsSlot request id told slot → IsSlot request id (told ++ t ∷ []) slot
slot-other request id told t None other h = told-other id told t other ∙ h
slot-other request id told t (Some reply) other h = (h.0, told-other id told t other ∙ h.1, h.2)

pub slots-other : (requests : List Request) (id : ℕ) (told : List ClientTold) (t : ClientTold) (slots : List (Option Reply)) → IsOfNone id (length requests) t
    → AreSlots requests id told slots → AreSlots requests id (told ++ t ∷ []) slots
slots-other [] id told t [] other h = tt
slots-other [] id told t (slot ∷ slots) other h = h
slots-other (r ∷ rs) id told t [] other h = h
slots-other (r ∷ rs) id told t (slot ∷ slots) other h = (
  slot-other r id told t slot (subst (λ (n : ℕ). is_told_of n t ≡ false) (add-zero id) (other 0 (omega arith))) h.0,
  slots-other rs (id + 1) told t slots (λ n few. subst (λ (m : ℕ). is_told_of m t ≡ false) (one-on id n) (other (suc n) (omega (arith, few)))) h.1,
)
  where
    one-on : (a b : ℕ) → a + suc b ≡ (a + 1) + b
    one-on a b = omega arith

-- what was told is of one call alone
of-one : (kind : RequestKind) (id other : ℕ) (t : ClientTold) (reply : Reply) → IsReplyBy kind id t reply → eqb id other ≡ false → is_told_of other t ≡ false
of-one kind id other t (Responds m) h e = ap (is_told_of other) h.1 ∙ e
of-one kind id other t (Aborted code) h e = ap (is_told_of other) h ∙ e

own-one : (kind : RequestKind) (id : ℕ) (t : ClientTold) (reply : Reply) → IsReplyBy kind id t reply → is_told_of id t ≡ true
own-one kind id t (Responds m) h = ap (is_told_of id) h.1 ∙ same id
  where
    same : (n : ℕ) → eqb n n ≡ true
    same n = search rules
own-one kind id t (Aborted code) h = ap (is_told_of id) h ∙ same id
  where
    same : (n : ℕ) → eqb n n ≡ true
    same n = search rules

pub eqb-other : (a b : ℕ) → (a ≡ b → ⊥) → eqb a b ≡ false
eqb-other a b h = by (eqb a b) refl
  where
    by : (c : Bool) → eqb a b ≡ c → eqb a b ≡ false
    by true e = absurd (h (eqb-true a b e))
    by false e = e

pub slots-set : (requests : List Request) (id : ℕ) (told : List ClientTold) (t : ClientTold) (slots : List (Option Reply)) (n : ℕ) (request : Request)
    (reply : Reply)
    → AreSlots requests id told slots → IsRequestAt requests n request → IsFirstOf told t → IsReplyBy (kind_of_request request) (id + n) t reply
    → AreSlots requests id (told ++ t ∷ []) (set slots n (Some reply))
slots-set [] id told t slots n request reply h at first by = absurd at
slots-set (r ∷ rs) id told t [] n request reply h at first by = absurd h
slots-set (r ∷ rs) id told t (slot ∷ slots) zero request reply h at first by =
    let own : IsReplyBy (kind_of_request r) id t reply = subst (λ (q : Request). IsReplyBy (kind_of_request q) id t reply) at
    (subst (λ (m : ℕ). IsReplyBy (kind_of_request request) m t reply) (add-zero id) by) in
    let mine : is_told_of id t ≡ true = own-one (kind_of_request r) id t reply own in (
      (t, told-own id told t mine (first id mine), own),
      slots-other rs (id + 1) told t slots
          (λ k few. of-one (kind_of_request r) id ((id + 1) + k) t reply own (eqb-other id ((id + 1) + k) (λ e. omega (arith, e))))
          h.1,
    )
slots-set (r ∷ rs) id told t (slot ∷ slots) (suc n) request reply h at first by = (
  slot-other r id told t slot (of-one (kind_of_request request) (id + suc n) id t reply by (eqb-other (id + suc n) id (λ e. omega (arith, e)))) h.0,
  slots-set rs (id + 1) told t slots n request reply h.1 at first (subst (λ (m : ℕ). IsReplyBy (kind_of_request request) m t reply) (one-on id n) by),
)
  where
    one-on : (a b : ℕ) → a + suc b ≡ (a + 1) + b
    one-on a b = omega arith

pub misanswered-at : (requests : List Request) (id : ℕ) (told : List ClientTold) (t : ClientTold) (slots : List (Option Reply)) (n : ℕ) (request : Request)
    → IsRequestAt requests n request → IsFirstOf told t → AreSlots requests id told slots
    → IsMisanswer (kind_of_request request) (id + n) t → IsMisanswered requests id (told ++ t ∷ [])
misanswered-at requests id told t slots n request at first h by = record {
  before = told;
  last = t;
  told_is = refl;
  slots = slots;
  slots_are = h;
  place = n;
  request = request;
  request_is = at;
  untold = first (id + n) (ap (is_told_of (id + n)) by.1 ∙ same (id + n));
  misanswers = by;
}
  where
    same : (m : ℕ) → eqb m m ≡ true
    same m = search rules

-- the element that was read is at its place
pub is-at : (requests : List Request) (n : ℕ) (request d : Request) → n < length requests → request ≡ get_or requests n d → IsRequestAt requests n request
is-at [] n request d few e = absurd (omega (arith, few))
is-at (r ∷ rs) zero request d few e = e
is-at (r ∷ rs) (suc n) request d few e = is-at rs n request d (omega (arith, few)) e
