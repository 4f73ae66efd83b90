-- The order of places.
use Rattle.std.proofs.Common.{◌≡◌, ℕ, ◌-◌, ◌<◌, Bool, true, false, ◌&&◌, ◌==◌, List, [], ◌∷◌, arith, refl, sym, ap, ◌∙◌}
use Rattle.std.proofs.Math.Bool.{and_assoc}
use Rattle.std.proofs.lemmas.Bool.{true≢false}
use Rattle.std.proofs.lemmas.Bool.Decides.{nat_tests}
use Rattle.std.specs.declared.cmp.Ordering.{Ordering}
use Rattle.std.specs.declared.cmp.Ordering.TheVariants.{Less, Equal, Greater}
use Rattle.std.specs.declared.option.Option.{Option}
use Rattle.std.specs.declared.option.Option.TheVariants.{None, Some}
use Rattle.std.specs.Cmp.{Equal-is, IsTotalOrder, bool_cmp_total, eq_by_cmp_equiv, nat_cmp_total, on_total, then_total, tied_itself}
use Rattle.std.specs.Cmp.Lexicographic.{options_total}
use Rattle.std.specs.FinMap.{nat_cmp-IsAntisymmetric}
use Rattle.std.specs.List.{AllByRecursion}
use Rattle.std.specs.Option.{option_cmp}
use Rattle.std.specs.Ordering.{bool_cmp, is_eq, is_gt, is_le, nat_cmp, ordering_then}
use Rattle.pq_model.specs.MatchFields.{MatchFields, same_number, same_masked, same_match}
use Rattle.pq_model.specs.Mods.{FlowValue}
use Rattle.pq_model.specs.SwitchMachine.{Entry, is_placed}
use Rattle.pq_switch.specs.Patterns.{no_pattern, pattern_of, shape_of}
use Rattle.pq_switch.specs.Places.{block_at, block_cmp, first_of, pattern_cmp, place_cmp, place_of}
use Rattle.pq_switch.specs.declared.pattern.Pattern.{Pattern}
use Rattle.pq_switch.specs.declared.place.Block.{Block}
use Rattle.pq_switch.specs.declared.place.Place.{Place}

pub number_total : IsTotalOrder (option_cmp nat_cmp)
number_total = options_total nat_cmp_total

masked_total : IsTotalOrder (option_cmp (λ (x y : ℕ × ℕ). ordering_then (nat_cmp x.0 y.0) (nat_cmp x.1 y.1)))
masked_total = options_total (then_total (on_total (λ x. x.0) nat_cmp_total) (on_total (λ x. x.1) nat_cmp_total))

pub pattern_total : IsTotalOrder pattern_cmp
pattern_total =
    then_total (on_total (λ h. h.in_port) number_total) (then_total (on_total (λ h. h.vlan) number_total)
    (then_total (on_total (λ h. h.eth_type) number_total) (then_total (on_total (λ h. h.ip_proto) number_total)
    (then_total (on_total (λ h. h.eth_src) number_total) (then_total (on_total (λ h. h.eth_dst) number_total)
    (then_total (on_total (λ h. h.ipv4_src) masked_total) (then_total (on_total (λ h. h.ipv4_dst) masked_total)
    (then_total (on_total (λ h. h.tcp_src) number_total) (then_total (on_total (λ h. h.tcp_dst) number_total)
    (then_total (on_total (λ h. h.udp_src) number_total) (then_total (on_total (λ h. h.udp_dst) number_total)
    (then_total (on_total (λ h. h.ipv6_src) masked_total) (on_total (λ h. h.ipv6_dst) masked_total)))))))))))))

pub block_total : IsTotalOrder block_cmp
block_total = then_total (on_total (λ b. b.table) nat_cmp_total) (then_total (on_total (λ b. b.in_port) number_total) (on_total (λ b. b.vlan) number_total))

pub place_cmp_total : IsTotalOrder place_cmp
place_cmp_total =
    then_total (on_total (λ p. p.block) block_total) (then_total (on_total (λ p. p.shape) pattern_total)
    (then_total (on_total (λ p. p.behind) bool_cmp_total) (then_total (on_total (λ p. p.pattern) pattern_total) (on_total (λ p. p.down) nat_cmp_total))))

pub both_equal : (r s : Ordering) → is_eq (ordering_then r s) ≡ is_eq r && is_eq s
both_equal Less s = refl
both_equal Equal s = refl
both_equal Greater s = refl

-- tests after one another, from the first on
abbrev pub joined : Bool → List Bool → Bool
joined b [] = b
joined b (c ∷ cs) = joined (b && c) cs

abbrev nested : List Bool → Bool
nested [] = true
nested (b ∷ []) = b
nested (b ∷ c ∷ cs) = b && nested (c ∷ cs)

joined-nested : (a b : Bool) (cs : List Bool) → joined a (b ∷ cs) ≡ a && nested (b ∷ cs)
joined-nested a b [] = refl
joined-nested a b (c ∷ cs) = joined-nested (a && b) c cs ∙ and_assoc a b (nested (c ∷ cs))

-- orders of which each is Equal exactly where a test passes
abbrev tests : List Ordering → List Bool
tests [] = []
tests (r ∷ rs) = is_eq r ∷ tests rs

pub same_numbers : (a b : ℕ) → is_eq (nat_cmp a b) ≡ (a == b)
same_numbers a b = grind (arith, nat_tests)

stated : (a b : Option ℕ) → is_eq (option_cmp nat_cmp a b) ≡ same_number a b
stated None None = refl
stated None (Some b) = refl
stated (Some a) None = refl
stated (Some a) (Some b) = same_numbers a b

masked : (a b : Option (ℕ × ℕ)) → is_eq (option_cmp (λ x y. ordering_then (nat_cmp x.0 y.0) (nat_cmp x.1 y.1)) a b) ≡ same_masked a b
masked None None = refl
masked None (Some b) = refl
masked (Some a) None = refl
masked (Some a) (Some b) = both_equal (nat_cmp a.0 b.0) (nat_cmp a.1 b.1) ∙ (λ i. same_numbers a.0 b.0 i && same_numbers a.1 b.1 i)

-- the match after its first two fields
abbrev rest_tests : MatchFields → MatchFields → List Bool
rest_tests m n =
    same_number m.eth_type n.eth_type ∷ same_number m.ip_proto n.ip_proto ∷ same_number m.eth_src n.eth_src ∷ same_number m.eth_dst n.eth_dst
    ∷ same_masked m.ipv4_src n.ipv4_src ∷ same_masked m.ipv4_dst n.ipv4_dst
    ∷ same_number m.tcp_src n.tcp_src ∷ same_number m.tcp_dst n.tcp_dst ∷ same_number m.udp_src n.udp_src ∷ same_number m.udp_dst n.udp_dst
    ∷ same_masked m.ipv6_src n.ipv6_src ∷ same_masked m.ipv6_dst n.ipv6_dst ∷ []

match-nested : (m n : MatchFields) → same_match m n ≡ nested (same_number m.in_port n.in_port ∷ same_number m.vlan n.vlan ∷ rest_tests m n)
unfolding same_match
match-nested m n = joined-nested (same_number m.in_port n.in_port) (same_number m.vlan n.vlan) (rest_tests m n)

-- the first that is not Equal decides
abbrev chain : List Ordering → Ordering
chain [] = Equal
chain (r ∷ []) = r
chain (r ∷ s ∷ rs) = ordering_then r (chain (s ∷ rs))

chain-equal : (r : Ordering) (rs : List Ordering) → is_eq (chain (r ∷ rs)) ≡ nested (tests (r ∷ rs))
chain-equal r [] = refl
chain-equal r (s ∷ rs) = both_equal r (chain (s ∷ rs)) ∙ ap (λ b. is_eq r && b) (chain-equal s rs)

abbrev pair_cmp : ℕ × ℕ → ℕ × ℕ → Ordering
pair_cmp x y = ordering_then (nat_cmp x.0 y.0) (nat_cmp x.1 y.1)

-- how the fields of two patterns after the first compare
abbrev rest_orders : Pattern → Pattern → List Ordering
rest_orders p q =
    option_cmp nat_cmp p.vlan q.vlan ∷ option_cmp nat_cmp p.eth_type q.eth_type ∷ option_cmp nat_cmp p.ip_proto q.ip_proto ∷ option_cmp
    nat_cmp p.eth_src q.eth_src ∷ option_cmp nat_cmp p.eth_dst q.eth_dst
    ∷ option_cmp pair_cmp p.ipv4_src q.ipv4_src ∷ option_cmp pair_cmp p.ipv4_dst q.ipv4_dst ∷ option_cmp nat_cmp p.tcp_src q.tcp_src ∷
    option_cmp nat_cmp p.tcp_dst q.tcp_dst
    ∷ option_cmp nat_cmp p.udp_src q.udp_src ∷ option_cmp nat_cmp p.udp_dst q.udp_dst ∷ option_cmp pair_cmp p.ipv6_src q.ipv6_src ∷
    option_cmp pair_cmp p.ipv6_dst q.ipv6_dst ∷ []

pattern-equal : (m n : MatchFields) → is_eq (pattern_cmp (pattern_of m) (pattern_of n)) ≡ same_match m n
pattern-equal m n =
    chain-equal (option_cmp nat_cmp m.in_port n.in_port) (rest_orders (pattern_of m) (pattern_of n))
    ∙ (λ i. nested (stated m.in_port n.in_port i ∷ stated m.vlan n.vlan i ∷ stated m.eth_type n.eth_type i ∷ stated m.ip_proto n.ip_proto i
    ∷ stated m.eth_src n.eth_src i ∷ stated m.eth_dst n.eth_dst i
    ∷ masked m.ipv4_src n.ipv4_src i ∷ masked m.ipv4_dst n.ipv4_dst i ∷ stated m.tcp_src n.tcp_src i ∷ stated m.tcp_dst n.tcp_dst i
    ∷ stated m.udp_src n.udp_src i ∷ stated m.udp_dst n.udp_dst i ∷ masked m.ipv6_src n.ipv6_src i ∷ masked m.ipv6_dst n.ipv6_dst i ∷ []))
    ∙ sym (match-nested m n)

-- what is not told apart is the same

less_is_not : {A : Type 0} → Less ≡ Equal → A
less_is_not e = absurd (true≢false (sym (ap is_eq e)))

greater_is_not : {A : Type 0} → Greater ≡ Equal → A
greater_is_not e = absurd (true≢false (sym (ap is_eq e)))

then_equal : (r s : Ordering) → ordering_then r s ≡ Equal → (r ≡ Equal) × (s ≡ Equal)
then_equal Less s h = less_is_not h
then_equal Equal s h = (refl, h)
then_equal Greater s h = greater_is_not h

chain-each : (r : Ordering) (rs : List Ordering) → chain (r ∷ rs) ≡ Equal → AllByRecursion (λ s. s ≡ Equal) (r ∷ rs)
chain-each r [] h = (h, tt)
chain-each r (s ∷ rs) h = let both = then_equal r (chain (s ∷ rs)) h in (both.0, chain-each s rs both.1)

number-exact : (a b : Option ℕ) → option_cmp nat_cmp a b ≡ Equal → a ≡ b
number-exact None None h = refl
number-exact None (Some b) h = less_is_not h
number-exact (Some a) None h = greater_is_not h
number-exact (Some a) (Some b) h = ap (λ n. Some n) (nat_cmp-IsAntisymmetric a b h)

masked-exact : (a b : Option (ℕ × ℕ)) → option_cmp pair_cmp a b ≡ Equal → a ≡ b
masked-exact None None h = refl
masked-exact None (Some b) h = less_is_not h
masked-exact (Some a) None h = greater_is_not h
masked-exact (Some a) (Some b) h =
    let both = then_equal (nat_cmp a.0 b.0) (nat_cmp a.1 b.1) h in
    let value = nat_cmp-IsAntisymmetric a.0 b.0 both.0 in
    let mask = nat_cmp-IsAntisymmetric a.1 b.1 both.1 in
    λ i. Some (value i, mask i)

pub pattern-exact : (p q : Pattern) → pattern_cmp p q ≡ Equal → p ≡ q
pattern-exact p q h =
    let e = chain-each (option_cmp nat_cmp p.in_port q.in_port) (rest_orders p q) h in
    let e_1 = e.1 in
    let e_2 = e_1.1 in
    let e_3 = e_2.1 in
    let e_4 = e_3.1 in
    let e_5 = e_4.1 in
    let e_6 = e_5.1 in
    let e_7 = e_6.1 in
    let e_8 = e_7.1 in
    let e_9 = e_8.1 in
    let e_10 = e_9.1 in
    let e_11 = e_10.1 in
    let e_12 = e_11.1 in
    let e_13 = e_12.1 in
    λ i. record {
      in_port = number-exact p.in_port q.in_port e.0 i;
      vlan = number-exact p.vlan q.vlan e_1.0 i;
      eth_type = number-exact p.eth_type q.eth_type e_2.0 i;
      ip_proto = number-exact p.ip_proto q.ip_proto e_3.0 i;
      eth_src = number-exact p.eth_src q.eth_src e_4.0 i;
      eth_dst = number-exact p.eth_dst q.eth_dst e_5.0 i;
      ipv4_src = masked-exact p.ipv4_src q.ipv4_src e_6.0 i;
      ipv4_dst = masked-exact p.ipv4_dst q.ipv4_dst e_7.0 i;
      tcp_src = number-exact p.tcp_src q.tcp_src e_8.0 i;
      tcp_dst = number-exact p.tcp_dst q.tcp_dst e_9.0 i;
      udp_src = number-exact p.udp_src q.udp_src e_10.0 i;
      udp_dst = number-exact p.udp_dst q.udp_dst e_11.0 i;
      ipv6_src = masked-exact p.ipv6_src q.ipv6_src e_12.0 i;
      ipv6_dst = masked-exact p.ipv6_dst q.ipv6_dst e_13.0 i;
    }

pub bool-exact : (a b : Bool) → bool_cmp a b ≡ Equal → a ≡ b
bool-exact false false h = refl
bool-exact false true h = less_is_not h
bool-exact true false h = greater_is_not h
bool-exact true true h = refl

pub block-exact : (b c : Block) → block_cmp b c ≡ Equal → b ≡ c
block-exact b c h =
    let e = chain-each (nat_cmp b.table c.table) (option_cmp nat_cmp b.in_port c.in_port ∷ option_cmp nat_cmp b.vlan c.vlan ∷ []) h in
    let table = nat_cmp-IsAntisymmetric b.table c.table e.0 in
    let in_port = number-exact b.in_port c.in_port e.1.0 in
    let vlan = number-exact b.vlan c.vlan e.1.1.0 in
    λ i. record { table = table i; in_port = in_port i; vlan = vlan i }

pub place-exact : (p q : Place) → place_cmp p q ≡ Equal → p ≡ q
place-exact p q h =
    let e = chain-each (block_cmp p.block q.block)
    (pattern_cmp p.shape q.shape ∷ bool_cmp p.behind q.behind ∷ pattern_cmp p.pattern q.pattern ∷ nat_cmp p.down q.down ∷ []) h in
    let block = block-exact p.block q.block e.0 in
    let shape = pattern-exact p.shape q.shape e.1.0 in
    let behind = bool-exact p.behind q.behind e.1.1.0 in
    let pattern = pattern-exact p.pattern q.pattern e.1.1.1.0 in
    let down = nat_cmp-IsAntisymmetric p.down q.down e.1.1.1.1.0 in
    λ i. record { block = block i; shape = shape i; behind = behind i; pattern = pattern i; down = down i }

-- the first place of a table

le_then : (r s : Ordering) → is_le r ≡ true → is_le s ≡ true → is_le (ordering_then r s) ≡ true
le_then Less s h k = refl
le_then Equal s h k = k
le_then Greater s h k = h

chain-le : (r : Ordering) (rs : List Ordering) → AllByRecursion (λ s. is_le s ≡ true) (r ∷ rs) → is_le (chain (r ∷ rs)) ≡ true
chain-le r [] h = h.0
chain-le r (s ∷ rs) h = le_then r (chain (s ∷ rs)) h.0 (chain-le s rs h.1)

none-first : {A : Type 0} (R : A → A → Ordering) (o : Option A) → is_le (option_cmp R None o) ≡ true
none-first R None = refl
none-first R (Some a) = refl

no_pattern-first : (p : Pattern) → is_le (pattern_cmp no_pattern p) ≡ true
no_pattern-first p = chain-le (option_cmp nat_cmp None p.in_port) (rest_orders no_pattern p) (
  none-first nat_cmp p.in_port,
  (
    none-first nat_cmp p.vlan,
    (
      none-first nat_cmp p.eth_type,
      (
        none-first nat_cmp p.ip_proto,
        (
          none-first nat_cmp p.eth_src,
          (
            none-first nat_cmp p.eth_dst,
            (
              none-first pair_cmp p.ipv4_src,
              (
                none-first pair_cmp p.ipv4_dst,
                (
                  none-first nat_cmp p.tcp_src,
                  (
                    none-first nat_cmp p.tcp_dst,
                    (
                      none-first nat_cmp p.udp_src,
                      (
                        none-first nat_cmp p.udp_dst,
                        (none-first pair_cmp p.ipv6_src, (none-first pair_cmp p.ipv6_dst, tt)),
                      ),
                    ),
                  ),
                ),
              ),
            ),
          ),
        ),
      ),
    ),
  ),
)

false-first : (b : Bool) → is_le (bool_cmp false b) ≡ true
false-first false = refl
false-first true = refl

zero-first : (n : ℕ) → is_le (nat_cmp 0 n) ≡ true
zero-first n = grind (arith, nat_tests)

pub first_of-first : (b : Block) (q : Place) → q.block ≡ b → is_le (place_cmp (first_of b) q) ≡ true
first_of-first b q block =
    chain-le (block_cmp b q.block)
    (pattern_cmp no_pattern q.shape ∷ bool_cmp false q.behind ∷ pattern_cmp no_pattern q.pattern ∷ nat_cmp 0 q.down ∷ []) (
      ap (λ c. is_le (block_cmp b c)) block ∙ ap is_le (tied_itself block_total b),
      (no_pattern-first q.shape, (false-first q.behind, (no_pattern-first q.pattern, (zero-first q.down, tt)))),
    )

-- before all places
abbrev pub lowest : Place
lowest = first_of (block_at 0 None None)

pub not_gt : (r : Ordering) → is_le r ≡ true → is_gt r ≡ false
not_gt Less h = refl
not_gt Equal h = refl
not_gt Greater h = absurd (true≢false (sym h))

pub lowest-first : (q : Place) → is_gt (place_cmp lowest q) ≡ false
lowest-first q = not_gt (place_cmp lowest q) (chain-le (block_cmp (block_at 0 None None) q.block)
    (pattern_cmp no_pattern q.shape ∷ bool_cmp false q.behind ∷ pattern_cmp no_pattern q.pattern ∷ nat_cmp 0 q.down ∷ []) (
      chain-le (nat_cmp 0 q.block.table) (option_cmp nat_cmp None q.block.in_port ∷ option_cmp nat_cmp None q.block.vlan ∷ []) (
        zero-first q.block.table,
        (none-first nat_cmp q.block.in_port, (none-first nat_cmp q.block.vlan, tt)),
      ),
      (no_pattern-first q.shape, (false-first q.behind, (no_pattern-first q.pattern, (zero-first q.down, tt)))),
    ))

downs : (p q : ℕ) → p < 0x10000 → q < 0x10000 → is_eq (nat_cmp (0x10000 - p) (0x10000 - q)) ≡ (p == q)
downs p q a b = grind (arith, nat_tests)

same_patterns : (m n : MatchFields) → same_match m n ≡ true → pattern_of m ≡ pattern_of n
same_patterns m n h = pattern-exact (pattern_of m) (pattern_of n) ((Equal-is (pattern_cmp (pattern_of m) (pattern_of n))).0 (pattern-equal m n ∙ h))

-- a pattern has one shape
one_shape : (m n : MatchFields) → same_match m n ≡ true → is_eq (pattern_cmp (shape_of (pattern_of m)) (shape_of (pattern_of n))) ≡ true
one_shape m n h =
    ap (λ p. is_eq (pattern_cmp (shape_of (pattern_of m)) (shape_of p))) (sym (same_patterns m n h))
    ∙ ap is_eq (tied_itself pattern_total (shape_of (pattern_of m)))

abbrev ends_equal : Pattern → Pattern → Bool
ends_equal p q = is_eq (option_cmp nat_cmp p.in_port q.in_port) && is_eq (option_cmp nat_cmp p.vlan q.vlan)

one_end : (m n : MatchFields) → same_match m n ≡ true → ends_equal (pattern_of m) (pattern_of n) ≡ true
one_end m n h =
    ap (ends_equal (pattern_of m)) (sym (same_patterns m n h))
    ∙ (λ i. is_eq (tied_itself number_total m.in_port i) && is_eq (tied_itself number_total m.vlan i))

shuffled : (t e s r p : Bool) → (r ≡ true → e ≡ true) → (r ≡ true → s ≡ true) → (t && e) && (s && (true && (r && p))) ≡ t && p && r
shuffled false e s r p g h = refl
shuffled true true true true true g h = refl
shuffled true true true true false g h = refl
shuffled true true true false true g h = refl
shuffled true true true false false g h = refl
shuffled true true false true p g h = absurd (true≢false (sym (h refl)))
shuffled true true false false true g h = refl
shuffled true true false false false g h = refl
shuffled true false s true p g h = absurd (true≢false (sym (g refl)))
shuffled true false s false true g h = refl
shuffled true false s false false g h = refl

-- two places are the same exactly where the tables, the matches and the priorities are
places-equal : (t u : ℕ) (m n : MatchFields) (p q : ℕ) → p < 0x10000 → q < 0x10000
    → is_eq (place_cmp (place_of t m p) (place_of u n q)) ≡ (t == u) && (p == q) && same_match m n
places-equal t u m n p q a b =
    chain-equal (block_cmp (block_at t m.in_port m.vlan) (block_at u n.in_port n.vlan))
    (pattern_cmp (shape_of (pattern_of m)) (shape_of (pattern_of n)) ∷ bool_cmp false false ∷ pattern_cmp (pattern_of m)
    (pattern_of n) ∷ nat_cmp (0x10000 - p) (0x10000 - q) ∷ [])
    ∙ (λ i. block i && (is_eq (pattern_cmp (shape_of (pattern_of m)) (shape_of (pattern_of n))) && (true && (pattern-equal m n i && downs p q a b i))))
    ∙ shuffled (t == u) (ends_equal (pattern_of m) (pattern_of n)) (is_eq (pattern_cmp (shape_of (pattern_of m)) (shape_of (pattern_of n))))
    (same_match m n) (p == q) (one_end m n) (one_shape m n)
  where
    block : is_eq (block_cmp (block_at t m.in_port m.vlan) (block_at u n.in_port n.vlan)) ≡ (t == u) && ends_equal (pattern_of m) (pattern_of n)
    block = chain-equal (nat_cmp t u) (option_cmp nat_cmp m.in_port n.in_port ∷ option_cmp nat_cmp m.vlan n.vlan ∷ [])
        ∙ ap (λ c. c && ends_equal (pattern_of m) (pattern_of n)) (same_numbers t u)

pub placed-equal : (f : FlowValue) (e : Entry) → f.priority < 0x10000 → e.priority < 0x10000 →
    is_eq (place_cmp (place_of f.table f.matching f.priority) (place_of e.table e.matching e.priority)) ≡ is_placed f e
placed-equal f e a b =
    (eq_by_cmp_equiv place_cmp_total).symm (place_of f.table f.matching f.priority) (place_of e.table e.matching e.priority)
    ∙ places-equal e.table f.table e.matching f.matching e.priority f.priority b a
