-- The numbers of a packet, one field changed, and the order of packets.
use Rattle.std.proofs.Common.{◌≡◌, ℕ, zero, suc, ◌<◌, ◌≤◌, ◌⊎◌, inl, inr, true, false, ◌==◌, ◌&&◌, ◌||◌, List, [], ◌∷◌, length, get_or, set}
use Rattle.std.proofs.Common.{refl, sym, ap, subst, ◌∙◌, true≢false, lt_trans, lt_of_lt_of_le, arith}
use Rattle.std.proofs.lemmas.List.{get_or-set_same, get_or-set_other}
use Rattle.std.proofs.lemmas.Bool.{cases_order, cases_lt}
use Rattle.std.proofs.lemmas.Bool.Decides.{nat_tests, leb_tells, eqb_tells}
use Rattle.pq_fields.specs.declared.field.Field.{Field}
use Rattle.pq_fields.specs.declared.field.Field.TheVariants.{Switch, Port, EthType, IpProto, EthSrc, EthDst, Ipv4Src, Ipv4Dst, TcpSrc}
use Rattle.pq_fields.specs.declared.field.Field.TheVariants.{TcpDst, UdpSrc, UdpDst, Ipv6Src, Ipv6Dst}
use Rattle.pq_fields.specs.Packet.{Numbers, numbers, number_in, with_number, rank, width_of, is_wide, is_before, zero_packet}
use Rattle.pq_store.specs.Least.{precedes}
use Rattle.pq_store.specs.Search.{Agrees, IsClear}
use Rattle.pq_store.proofs.Order.{rank_injective}

-- a field's number is at its rank
number_at : (f : Field) (x : Numbers) → get_or (numbers x) (rank f) 0 ≡ number_in f x
number_at Switch x = refl
number_at Port x = refl
number_at EthType x = refl
number_at IpProto x = refl
number_at EthSrc x = refl
number_at EthDst x = refl
number_at Ipv4Src x = refl
number_at Ipv4Dst x = refl
number_at TcpSrc x = refl
number_at TcpDst x = refl
number_at UdpSrc x = refl
number_at UdpDst x = refl
number_at Ipv6Src x = refl
number_at Ipv6Dst x = refl

-- a number is changed at its field's rank
numbers_with : (f : Field) (n : ℕ) (x : Numbers) → numbers (with_number f n x) ≡ set (numbers x) (rank f) n
numbers_with Switch n x = refl
numbers_with Port n x = refl
numbers_with EthType n x = refl
numbers_with IpProto n x = refl
numbers_with EthSrc n x = refl
numbers_with EthDst n x = refl
numbers_with Ipv4Src n x = refl
numbers_with Ipv4Dst n x = refl
numbers_with TcpSrc n x = refl
numbers_with TcpDst n x = refl
numbers_with UdpSrc n x = refl
numbers_with UdpDst n x = refl
numbers_with Ipv6Src n x = refl
numbers_with Ipv6Dst n x = refl

-- a packet with its own number is the packet
pub with_own : (f : Field) (x : Numbers) → with_number f (number_in f x) x ≡ x
with_own Switch x = refl
with_own Port x = refl
with_own EthType x = refl
with_own IpProto x = refl
with_own EthSrc x = refl
with_own EthDst x = refl
with_own Ipv4Src x = refl
with_own Ipv4Dst x = refl
with_own TcpSrc x = refl
with_own TcpDst x = refl
with_own UdpSrc x = refl
with_own UdpDst x = refl
with_own Ipv6Src x = refl
with_own Ipv6Dst x = refl

-- a packet has fourteen numbers
pub rank_below : (f : Field) → rank f < 14
rank_below Switch = omega arith
rank_below Port = omega arith
rank_below EthType = omega arith
rank_below IpProto = omega arith
rank_below EthSrc = omega arith
rank_below EthDst = omega arith
rank_below Ipv4Src = omega arith
rank_below Ipv4Dst = omega arith
rank_below TcpSrc = omega arith
rank_below TcpDst = omega arith
rank_below UdpSrc = omega arith
rank_below UdpDst = omega arith
rank_below Ipv6Src = omega arith
rank_below Ipv6Dst = omega arith

-- each place below fourteen is the rank of a field
ranked : (k : ℕ) → k < 14 → (f : Field) × (rank f ≡ k)
ranked zero h = (Switch, refl)
ranked (suc zero) h = (Port, refl)
ranked (suc (suc zero)) h = (EthType, refl)
ranked (suc (suc (suc zero))) h = (IpProto, refl)
ranked (suc (suc (suc (suc zero)))) h = (EthSrc, refl)
ranked (suc (suc (suc (suc (suc zero))))) h = (EthDst, refl)
ranked (suc (suc (suc (suc (suc (suc zero)))))) h = (Ipv4Src, refl)
ranked (suc (suc (suc (suc (suc (suc (suc zero))))))) h = (Ipv4Dst, refl)
ranked (suc (suc (suc (suc (suc (suc (suc (suc zero)))))))) h = (TcpSrc, refl)
ranked (suc (suc (suc (suc (suc (suc (suc (suc (suc zero))))))))) h = (TcpDst, refl)
ranked (suc (suc (suc (suc (suc (suc (suc (suc (suc (suc zero)))))))))) h = (UdpSrc, refl)
ranked (suc (suc (suc (suc (suc (suc (suc (suc (suc (suc (suc zero))))))))))) h = (UdpDst, refl)
ranked (suc (suc (suc (suc (suc (suc (suc (suc (suc (suc (suc (suc zero)))))))))))) h = (Ipv6Src, refl)
ranked (suc (suc (suc (suc (suc (suc (suc (suc (suc (suc (suc (suc (suc zero))))))))))))) h = (Ipv6Dst, refl)
ranked (suc (suc (suc (suc (suc (suc (suc (suc (suc (suc (suc (suc (suc (suc k)))))))))))))) h = absurd (omega arith)

-- the changed field has the new number
pub number_with : (f : Field) (n : ℕ) (x : Numbers) → number_in f (with_number f n x) ≡ n
number_with f n x = sym (number_at f (with_number f n x)) ∙ ap (λ ns. get_or ns (rank f) 0) (numbers_with f n x)
    ∙ get_or-set_same (numbers x) (rank f) n 0 (rank_below f)

-- the other fields keep theirs
pub number_with_other : (f g : Field) (n : ℕ) (x : Numbers) → (rank g ≡ rank f → ⊥) → number_in g (with_number f n x) ≡ number_in g x
number_with_other f g n x other = sym (number_at g (with_number f n x)) ∙ ap (λ ns. get_or ns (rank g) 0) (numbers_with f n x)
    ∙ get_or-set_other (numbers x) (rank f) (rank g) n 0 other ∙ number_at g x

-- the packet whose numbers are 0 has 0 in each field
pub zero_number : (f : Field) → number_in f zero_packet ≡ 0
zero_number Switch = refl
zero_number Port = refl
zero_number EthType = refl
zero_number IpProto = refl
zero_number EthSrc = refl
zero_number EthDst = refl
zero_number Ipv4Src = refl
zero_number Ipv4Dst = refl
zero_number TcpSrc = refl
zero_number TcpDst = refl
zero_number UdpSrc = refl
zero_number UdpDst = refl
zero_number Ipv6Src = refl
zero_number Ipv6Dst = refl

-- no number is below 0
below_zero : {n : ℕ} → n < 0 → ⊥
below_zero h = omega arith

-- one list is before another where it is below it at a place and equal before
before_at : (xs ys : List ℕ) (k : ℕ) → k < length xs → k < length ys → ((j : ℕ) → j < k → get_or xs j 0 ≡ get_or ys j 0)
    → get_or xs k 0 < get_or ys k 0 → is_before xs ys ≡ true
before_at [] ys k in_xs in_ys same less = absurd (omega arith)
before_at (x ∷ xs) [] k in_xs in_ys same less = absurd (omega arith)
before_at (x ∷ xs) (y ∷ ys) zero in_xs in_ys same less =
    elim (leb_tells (suc x) y) [ inl e ↦ ap (λ b. b || ((x == y) && is_before xs ys)) e.0 | inr e ↦ absurd (omega arith) ]
before_at (x ∷ xs) (y ∷ ys) (suc k) in_xs in_ys same less =
    let first : x ≡ y = same 0 (omega arith) in
    let later = before_at xs ys k (omega arith) (omega arith) (λ j h. same (suc j) (omega arith)) less in
    grind (arith, nat_tests)

-- a list that is before another as long is below it at a place and equal before
differs_at : (xs ys : List ℕ) → length xs ≡ length ys → is_before xs ys ≡ true
    → (k : ℕ) × (k < length xs) × ((j : ℕ) → j < k → get_or xs j 0 ≡ get_or ys j 0) × (get_or xs k 0 < get_or ys k 0)
differs_at [] [] long before = absurd (true≢false (sym before))
differs_at [] (y ∷ ys) long before = absurd (omega arith)
differs_at (x ∷ xs) [] long before = absurd (true≢false (sym before))
differs_at (x ∷ xs) (y ∷ ys) long before = elim (leb_tells (suc x) y) [
  | inl less ↦ (0, omega arith, λ j h. absurd (omega arith), less.1)
  | inr more ↦ elim (eqb_tells x y) [
    | inl same ↦
        let later = differs_at xs ys (omega arith) (rw (more.0, same.0) at before) in (
          suc later.0,
          omega arith,
          λ j. elim j as (λ j. j < suc later.0 → get_or (x ∷ xs) j 0 ≡ get_or (y ∷ ys) j 0) [
            | zero ↦
                λ h. same.1
            | suc i ↦ λ h. later.2 i (omega arith)
          ],
          later.3,
        )
    | inr other ↦ absurd (true≢false (sym (rw (more.0, other.0) at before)))
  ]
]

-- a packet is before another where it is below it in a field and agrees before
pub precedes_at : (f : Field) (x p : Numbers) → Agrees f x p → number_in f x < number_in f p → precedes x p ≡ true
precedes_at f x p same less =
    before_at (numbers x) (numbers p) (rank f) (rank_below f) (rank_below f)
    (λ j h. let g = ranked j (lt_trans h (rank_below f)) in
    subst (λ j. get_or (numbers x) j 0 ≡ get_or (numbers p) j 0) g.1 (number_at g.0 x ∙ same g.0 (subst (λ j. j < rank f) (sym g.1) h)
    ∙ sym (number_at g.0 p)))
    (subst (λ a. a < get_or (numbers p) (rank f) 0) (sym (number_at f x)) (subst (λ b. number_in f x < b) (sym (number_at f p)) less))

-- a packet that is before another is below it in a field and agrees before
pub differs_in : (x p : Numbers) → precedes x p ≡ true → (f : Field) × Agrees f x p × (number_in f x < number_in f p)
differs_in x p before =
    let d = differs_at (numbers x) (numbers p) refl before in
    let f = ranked d.0 d.1 in
    let same : (j : ℕ) → j < rank f.0 → get_or (numbers x) j 0 ≡ get_or (numbers p) j 0 = λ j h. d.2 j (subst (λ k. j < k) f.1 h) in
    let less : get_or (numbers x) (rank f.0) 0 < get_or (numbers p) (rank f.0) 0 =
    subst (λ k. get_or (numbers x) k 0 < get_or (numbers p) k 0) (sym f.1) d.3 in (
      f.0,
      λ g h. sym (number_at g x) ∙ same (rank g) h ∙ number_at g p,
      subst (λ a. a < number_in f.0 p) (number_at f.0 x) (subst (λ b. get_or (numbers x) (rank f.0) 0 < b) (number_at f.0 p) less),
    )

-- the changed packet agrees with the packet before the field
pub agrees_with : (f : Field) (n : ℕ) (x p : Numbers) → Agrees f x p → Agrees f x (with_number f n p)
agrees_with f n x p same g h = same g h ∙ sym (number_with_other f g n p (λ e. omega arith))

-- and so the other way round
pub agrees_back : (f : Field) (n : ℕ) (x p : Numbers) → Agrees f x (with_number f n p) → Agrees f x p
agrees_back f n x p same g h = same g h ∙ number_with_other f g n p (λ e. omega arith)

-- the changed packet is clear where the packet is
pub clear_with : (f : Field) (n : ℕ) (p : Numbers) → IsClear f p → IsClear f (with_number f n p)
clear_with f n p clear g h = number_with_other f g n p (λ e. omega arith) ∙ clear g h

-- a packet with less in the field is before the packet with this number there
pub precedes_with : (f : Field) (n : ℕ) (x p : Numbers) → Agrees f x p → number_in f x < n → precedes x (with_number f n p) ≡ true
precedes_with f n x p same less = precedes_at f x (with_number f n p) (agrees_with f n x p same) (subst (λ m. number_in f x < m) (sym (number_with f n p)) less)

-- what is before a clear packet with this number either is before it with a lower one, or agrees and has a number between
pub precedes_between : (f : Field) (a b : ℕ) (x p : Numbers) → IsClear f p → precedes x (with_number f b p) ≡ true
    → (precedes x (with_number f a p) ≡ true) ⊎ (Agrees f x p × (a ≤ number_in f x) × (number_in f x < b))
precedes_between f a b x p clear before = elim (cases_order (rank d.0) (rank f)) [
  | inl same ↦ at_field (subst (λ g. Agrees g x (with_number f b p) × (number_in g x < number_in g (with_number f b p))) (rank_injective d.0 f same) (d.1, d.2))
  | inr other ↦ elim other [
    | inl less ↦ inl (precedes_at d.0 x (with_number f a p) (λ h k. d.1 h k ∙ kept h (λ e. omega arith))
        (subst (λ n. number_in d.0 x < n) (kept d.0 (λ e. omega arith)) d.2))
    | inr more ↦ absurd (below_zero (subst (λ n. number_in d.0 x < n) (clear_with f b p clear d.0 more) d.2))
  ]
]
  where
    d : (g : Field) × Agrees g x (with_number f b p) × (number_in g x < number_in g (with_number f b p))
    d = differs_in x (with_number f b p) before

    kept : (g : Field) → (rank g ≡ rank f → ⊥) → number_in g (with_number f b p) ≡ number_in g (with_number f a p)
    kept g other = number_with_other f g b p other ∙ sym (number_with_other f g a p other)

    at_field : Agrees f x (with_number f b p) × (number_in f x < number_in f (with_number f b p))
        → (precedes x (with_number f a p) ≡ true) ⊎ (Agrees f x p × (a ≤ number_in f x) × (number_in f x < b))
    at_field h = elim (cases_lt (number_in f x) a) [
      | inl less ↦ inl (precedes_with f a x p (agrees_back f b x p h.0) less)
      | inr more ↦ inr (agrees_back f b x p h.0, more, subst (λ n. number_in f x < n) (number_with f b p) h.1)
    ]

-- a packet is no later after a greater number
pub precedes_more : (f : Field) (a b : ℕ) (x p : Numbers) → a ≤ b → precedes x (with_number f a p) ≡ true → precedes x (with_number f b p) ≡ true
precedes_more f a b x p more before = elim (cases_order (rank d.0) (rank f)) [
  | inl same ↦ at_field (subst (λ g. Agrees g x (with_number f a p) × (number_in g x < number_in g (with_number f a p))) (rank_injective d.0 f same) (d.1, d.2))
  | inr other ↦ elim other [
    | inl less ↦ precedes_at d.0 x (with_number f b p) (λ h k. d.1 h k ∙ kept h (λ e. omega arith))
        (subst (λ n. number_in d.0 x < n) (kept d.0 (λ e. omega arith)) d.2)
    | inr later ↦ elim (cases_order a b) [
      | inl same ↦ subst (λ n. precedes x (with_number f n p) ≡ true) same before
      | inr rises ↦ precedes_with f b x p (λ g h. d.1 g (lt_trans h later) ∙ number_with_other f g a p (λ e. omega arith))
          (subst (λ n. n < b) (sym (d.1 f later ∙ number_with f a p)) (elim rises [ inl h ↦ h | inr h ↦ absurd (omega arith) ]))
    ]
  ]
]
  where
    d : (g : Field) × Agrees g x (with_number f a p) × (number_in g x < number_in g (with_number f a p))
    d = differs_in x (with_number f a p) before

    kept : (g : Field) → (rank g ≡ rank f → ⊥) → number_in g (with_number f a p) ≡ number_in g (with_number f b p)
    kept g other = number_with_other f g a p other ∙ sym (number_with_other f g b p other)

    at_field : Agrees f x (with_number f a p) × (number_in f x < number_in f (with_number f a p)) → precedes x (with_number f b p) ≡ true
    at_field h = precedes_with f b x p (agrees_back f a x p h.0) (lt_of_lt_of_le (subst (λ n. number_in f x < n) (number_with f a p) h.1) more)

-- no packet is before the one whose numbers are 0
pub none_before_zero : (x : Numbers) → precedes x zero_packet ≡ true → ⊥
none_before_zero x before = let d = differs_in x zero_packet before in no_less d.0 (number_in d.0 x) d.2
  where
    no_less : (f : Field) (n : ℕ) → n < number_in f zero_packet → ⊥
    no_less f n h = below_zero (subst (λ m. n < m) (zero_number f) h)

-- the numbers of fields that are not IPv6 addresses have at most 64 bits
pub narrow_width : (f : Field) → is_wide f ≡ false → width_of f ≤ 64
narrow_width Switch narrow = omega arith
narrow_width Port narrow = omega arith
narrow_width EthType narrow = omega arith
narrow_width IpProto narrow = omega arith
narrow_width EthSrc narrow = omega arith
narrow_width EthDst narrow = omega arith
narrow_width Ipv4Src narrow = omega arith
narrow_width Ipv4Dst narrow = omega arith
narrow_width TcpSrc narrow = omega arith
narrow_width TcpDst narrow = omega arith
narrow_width UdpSrc narrow = omega arith
narrow_width UdpDst narrow = omega arith
narrow_width Ipv6Src narrow = absurd (true≢false narrow)
narrow_width Ipv6Dst narrow = absurd (true≢false narrow)
