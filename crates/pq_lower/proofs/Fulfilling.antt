-- What the predicates of atoms tell.
use Rattle.std.proofs.Common.{◌≡◌, ◌≢◌, ℕ, Bool, true, false, not, ◌&&◌, ◌||◌, inl, inr, List, [], ◌∷◌, ◌++◌, length, take, refl, sym, ap, ◌∙◌, rules}
use Rattle.std.specs.List.{list_all}
use Rattle.std.specs.Prelude.{◌==◌}
use Rattle.std.proofs.lemmas.Bool.Decides.{eqb_tells}
use Rattle.std.proofs.lemmas.Bool.{and_parts}
use Rattle.pq_fields.specs.Packet.{Numbers}
use Rattle.pq_fields.specs.Pred.{PredTree, preds, truths, holds}
use Rattle.pq_query.specs.Groups.{Group}
use Rattle.pq_query.specs.Language.{meets, Fulfils}
use Rattle.pq_lower.specs.Added.{dropped, sent, tests, fulfilling}

-- all the predicates hold
abbrev all_hold : List PredTree → Numbers → Bool
all_hold ps x = list_all (λ b. b) (truths (preds ps) x)

shifted : (a b c : Bool) → (a && (b && c)) ≡ ((a && b) && c)
shifted true b c = refl
shifted false b c = refl

-- the tests hold of the packets that have the values of the label
tests_hold : (gs : List Group) (label : List ℕ) (more : List PredTree) (x : Numbers)
    → all_hold (tests gs label ++ more) x ≡ (meets gs label x && all_hold more x)
tests_hold [] label more x = refl
tests_hold (g ∷ gs) [] more x = refl
tests_hold (g ∷ gs) (n ∷ label) more x = rw (tests_hold gs label more x) (shifted _ (meets gs label x) (all_hold more x))

-- a packet has as many values of a label as there are grouped fields
pub meets_window : (gs : List Group) (label : List ℕ) (x : Numbers) → meets gs (take (length gs) label) x ≡ meets gs label x
meets_window [] label x = refl
meets_window (g ∷ gs) [] x = refl
meets_window (g ∷ gs) (n ∷ label) x = rw (meets_window gs label x) refl

pub fulfils_holds : (p : PredTree) (gs : List Group) (label : List ℕ) (more : List PredTree) (x : Numbers) → Fulfils p gs label x
    → all_hold more x ≡ true → holds (fulfilling p gs label more) x ≡ true
fulfils_holds p gs label more x (held, met) rest = rw (tests_hold gs label more x, held, met) rest

pub holds_fulfils : (p : PredTree) (gs : List Group) (label : List ℕ) (more : List PredTree) (x : Numbers)
    → holds (fulfilling p gs label more) x ≡ true → Fulfils p gs label x × (all_hold more x ≡ true)
holds_fulfils p gs label more x h =
    let first = and_parts (holds p x) (all_hold (tests gs label ++ more) x) h in
    let later = and_parts (meets gs label x) (all_hold more x) (sym (tests_hold gs label more x) ∙ first.1) in
    ((first.0, later.0), later.1)

-- the packet is at port 0, or not
pub dropped_port : (x : Numbers) → holds dropped x ≡ true → x.port ≡ 0
dropped_port x h = elim (eqb_tells x.port 0) [
  | inl same ↦ same.1
  | inr other ↦ absurd (search (sym other.0 ∙ h, rules))
]

pub port_dropped : (x : Numbers) → x.port ≡ 0 → holds dropped x ≡ true
port_dropped x none = rw none refl

pub sent_port : (x : Numbers) → all_hold (sent ∷ []) x ≡ true → x.port ≢ 0
sent_port x h none = absurd (search (sym (ap (λ n. (not ((n == 0) || false)) && true) none) ∙ h, rules))

pub port_sent : (x : Numbers) → x.port ≢ 0 → all_hold (sent ∷ []) x ≡ true
port_sent x some = elim (eqb_tells x.port 0) [
  | inl same ↦ absurd (some same.1)
  | inr other ↦ rw other.0 refl
]
