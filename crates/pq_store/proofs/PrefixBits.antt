-- The first packets with a bit clear and with it set.
use Rattle.std.proofs.Common.{◌≡◌, ℕ, ◌+◌, ◌-◌, ◌*◌, ◌/◌, ◌%◌, ◌^◌, ◌<◌, ◌≤◌, ◌⊎◌, inl, inr, true, false, ◌==◌, sym, ap, subst, ◌∙◌, arith}
use Rattle.std.proofs.Math.Nat.{div-div-eq-div-mul, mul-mod_right, mod-add-div, mul-div_cancel_left, mul-add-mod_self_left}
use Rattle.std.proofs.Math.Nat.{lt_of_mul-lt-mul_left, mul-le-mul_left, lt-mul-div-succ}
use Rattle.std.proofs.lemmas.Nat.{pow-add, pow_pos, div-mul-add}
use Rattle.pq_fields.specs.declared.field.Field.{Field}
use Rattle.pq_fields.specs.Packet.{Numbers, number_in, bit_in, width_of, with_number}
use Rattle.pq_store.specs.Least.{precedes}
use Rattle.pq_store.specs.Search.{Shares, Begins}
use Rattle.pq_store.proofs.PrefixNumbers.{with_own, number_with, agrees_back, clear_with, precedes_with, precedes_between, precedes_more}

module _ (n half : ℕ) (some : 0 < half) (whole : n % (half * 2) ≡ 0) where
  -- the number is a double of halves
  halves : n ≡ half * (2 * (n / (half * 2)))
  halves = omega (arith, mod-add-div n (half * 2))

  -- this many halves
  in_halves : n / half ≡ 2 * (n / (half * 2))
  in_halves = ap (λ m. m / half) halves ∙ mul-div_cancel_left (2 * (n / (half * 2))) some

  -- one more with another half
  one_half_more : (n + half) / half ≡ 2 * (n / (half * 2)) + 1
  one_half_more =
      let e : n + half ≡ half * (2 * (n / (half * 2)) + 1) = omega (arith, halves) in
      ap (λ m. m / half) e ∙ mul-div_cancel_left (2 * (n / (half * 2)) + 1) some

  -- the double is the same
  same_double : (n + half) / (half * 2) ≡ n / (half * 2)
  same_double =
      let e : n + half ≡ n / (half * 2) * (half * 2) + half = omega (arith, halves) in
      ap (λ m. m / (half * 2)) e ∙ div-mul-add (n / (half * 2)) (half * 2) half (omega arith)

  -- the number is a multiple of the half
  whole_half : n % half ≡ 0
  whole_half = ap (λ m. m % half) halves ∙ mul-mod_right half (2 * (n / (half * 2)))

  -- so is the greater
  whole_half_more : (n + half) % half ≡ 0
  whole_half_more =
      let e : n + half ≡ half * (2 * (n / (half * 2)) + 1) = omega (arith, halves) in
      ap (λ m. m % half) e ∙ mul-mod_right half (2 * (n / (half * 2)) + 1)

  -- between them the half is the same
  between_halves : (a : ℕ) → n ≤ a → a < n + half → a / half ≡ n / half
  between_halves a low high =
      let e : a ≡ 2 * (n / (half * 2)) * half + (a - n) = omega (arith, halves) in
      ap (λ m. m / half) e ∙ div-mul-add (2 * (n / (half * 2))) half (a - n) (omega arith) ∙ sym in_halves

  -- and numbers in it are below the next half
  below_next : (a : ℕ) → a / half ≡ n / half → a < n + half
  below_next a same =
      let e : half * (2 * (n / (half * 2)) + 1) ≡ n + half = omega (arith, halves) in
      subst (λ m. a < m) (ap (λ q. half * (q + 1)) (same ∙ in_halves) ∙ e) (lt-mul-div-succ a some)

  -- below a power that the double divides there is room for the half
  half_fits : (m : ℕ) → n < half * 2 * m → n + half < half * 2 * m
  half_fits m below =
      let e : n ≡ half * 2 * (n / (half * 2)) = omega (arith, halves) in
      let less : n / (half * 2) < m = lt_of_mul-lt-mul_left (half * 2) (subst (λ k. k < half * 2 * m) e below) in
      omega (arith, e, mul-le-mul_left (half * 2) less)

module _ (f : Field) (i : ℕ) (p : Numbers) (within : i < width_of f) (first : Begins f (2 ^ (width_of f - i)) p) where
  -- what the bit stands for
  half : ℕ
  half = 2 ^ (width_of f - 1 - i)

  -- the span is two of them
  doubled : 2 ^ (width_of f - i) ≡ half * 2
  unfolding half
  doubled =
      let e : width_of f - i ≡ width_of f - 1 - i + 1 = omega arith in
      ap (λ k. 2 ^ k) e ∙ pow-add 2 (width_of f - 1 - i) 1

  -- it is some number
  some : 0 < half
  unfolding half
  some = pow_pos (width_of f - 1 - i)

  -- the packet's number is a multiple of the span
  whole : number_in f p % (half * 2) ≡ 0
  whole = ap (λ m. number_in f p % m) (sym doubled) ∙ first.1

  -- the packet with the bit set
  abbrev pub bit_set : Numbers
  bit_set = with_number f (number_in f p + 2 ^ (width_of f - 1 - i)) p

  -- the number with the bit set
  set_number : number_in f bit_set ≡ number_in f p + half
  unfolding half
  set_number = number_with f (number_in f p + 2 ^ (width_of f - 1 - i)) p

  -- there is room for the bit
  pub bit_fits : number_in f p < 2 ^ width_of f → number_in f p + 2 ^ (width_of f - 1 - i) < 2 ^ width_of f
  unfolding half
  bit_fits below =
      let e : width_of f ≡ width_of f - i + i = omega arith in
      let power : 2 ^ width_of f ≡ half * 2 * 2 ^ i = ap (λ k. 2 ^ k) e ∙ pow-add 2 (width_of f - i) i ∙ ap (λ m. m * 2 ^ i) doubled in
      subst (λ m. number_in f p + half < m) (sym power) (half_fits (number_in f p) half some whole (2 ^ i) (subst (λ m. number_in f p < m) power below))

  -- with the bit clear the packet is the first of its half
  pub clear_first : Begins f (2 ^ (width_of f - 1 - i)) p
  unfolding half
  clear_first = (first.0, whole_half (number_in f p) half some whole)

  -- with the bit set it is so too
  pub set_first : Begins f (2 ^ (width_of f - 1 - i)) bit_set
  unfolding half
  set_first = (
    clear_with f (number_in f p + 2 ^ (width_of f - 1 - i)) p first.0,
    ap (λ m. m % half) set_number
        ∙ whole_half_more (number_in f p) half some whole,
  )

  -- packets that share the half share the span
  widened : (x q : Numbers) → Shares f half x q → Shares f (2 ^ (width_of f - i)) x q
  widened x q same = (
    same.0,
    subst (λ m. number_in f x / m ≡ number_in f q / m) (sym doubled)
        (sym (div-div-eq-div-mul (number_in f x) half 2) ∙ ap (λ m. m / 2) same.1 ∙ div-div-eq-div-mul (number_in f q) half 2),
  )

  -- packets that share the half with it share the span, and have the bit clear
  pub clear_shares : (x : Numbers) → Shares f (2 ^ (width_of f - 1 - i)) x p → Shares f (2 ^ (width_of f - i)) x p × (bit_in f i x ≡ false)
  unfolding half
  clear_shares x same = (
    widened x p same,
    ap (λ m. m % 2 == 1) (same.1 ∙ in_halves (number_in f p) half some whole)
        ∙ ap (λ m. m == 1) (mul-mod_right 2 (number_in f p / (half * 2))),
  )

  -- with the bit set they have it set
  pub set_shares : (x : Numbers) → Shares f (2 ^ (width_of f - 1 - i)) x bit_set → Shares f (2 ^ (width_of f - i)) x p × (bit_in f i x ≡ true)
  unfolding half
  set_shares x same =
      let wide = widened x bit_set same in
      let odd : number_in f x / half % 2 ≡ 1 = ap (λ m. m % 2) (same.1 ∙ ap (λ m. m / half) set_number
      ∙ one_half_more (number_in f p) half some whole) ∙ mul-add-mod_self_left 2 (number_in f p / (half * 2)) 1 in (
        (
          agrees_back f (number_in f p + half) x p wide.0,
          wide.1 ∙ ap (λ m. m / 2 ^ (width_of f - i)) set_number
              ∙ ap (λ m. (number_in f p + half) / m) doubled ∙ same_double (number_in f p) half some whole
              ∙ ap (λ m. number_in f p / m) (sym doubled),
        ),
        ap (λ m. m == 1) odd,
      )

  -- what is before the packet with the bit set is before the one with the bit clear, or shares the half with it
  pub before_set : (x : Numbers) → precedes x bit_set ≡ true → (precedes x p ≡ true) ⊎ Shares f (2 ^ (width_of f - 1 - i)) x p
  unfolding half
  before_set x before = elim (precedes_between f (number_in f p) (number_in f p + half) x p first.0 before) [
    | inl earlier ↦ inl (subst (λ q. precedes x q ≡ true) (with_own f p) earlier)
    | inr same ↦ inr (same.0, between_halves (number_in f p) half some whole (number_in f x) same.1 same.2)
  ]

  -- what is before the packet is before it with the bit set
  pub earlier_set : (x : Numbers) → precedes x p ≡ true → precedes x bit_set ≡ true
  earlier_set x before = precedes_more f (number_in f p) (number_in f p + 2 ^ (width_of f - 1 - i)) x p (omega arith)
      (subst (λ q. precedes x q ≡ true) (sym (with_own f p)) before)

  -- so does what shares the half with the bit clear
  pub shared_set : (x : Numbers) → Shares f (2 ^ (width_of f - 1 - i)) x p → precedes x bit_set ≡ true
  unfolding half
  shared_set x same = precedes_with f (number_in f p + half) x p same.0 (below_next (number_in f p) half some whole (number_in f x) same.1)
