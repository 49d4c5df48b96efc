-- Remainders may be taken on the way.
use Rattle.std.proofs.Common.{◌≡◌, ℕ, ◌+◌, ◌*◌, ◌/◌, ◌%◌, ◌<◌, List, [], ◌∷◌, ◌++◌, refl, sym, ◌∙◌, ap, ap₂, arith}
use Rattle.std.proofs.Math.Nat.{add-mod, mod-mod}
use Rattle.qls_shape.specs.Adler.{low_from, high_from, adler_from, adler_of, adler_on}

sum_same : (a b x y m : ℕ) → a % m ≡ b % m → x % m ≡ y % m → (a + x) % m ≡ (b + y) % m
sum_same a b x y m first second = add-mod a x m ∙ ap (λ p. (p + x % m) % m) first ∙ ap (λ p. (b % m + p) % m) second ∙ sym (add-mod b y m)

pub low_same : (m a b : ℕ) (xs : List ℕ) → a % m ≡ b % m → low_from a xs % m ≡ low_from b xs % m
low_same m a b [] same = same
low_same m a b (x ∷ xs) same = low_same m (a + x) (b + x) xs (sum_same a b x x m same refl)

pub high_same : (m a b p q : ℕ) (xs : List ℕ) → a % m ≡ b % m → p % m ≡ q % m → high_from a p xs % m ≡ high_from b q xs % m
high_same m a b p q [] same high = high
high_same m a b p q (x ∷ xs) same high =
    let next : (a + x) % m ≡ (b + x) % m = sum_same a b x x m same refl in
    high_same m (a + x) (b + x) (p + (a + x)) (q + (b + x)) xs next (sum_same p q (a + x) (b + x) m high next)

pub low-append : (a : ℕ) (xs ys : List ℕ) → low_from a (xs ++ ys) ≡ low_from (low_from a xs) ys
low-append a [] ys = refl
low-append a (x ∷ xs) ys = low-append (a + x) xs ys

pub high-append : (a b : ℕ) (xs ys : List ℕ) → high_from a b (xs ++ ys) ≡ high_from (low_from a xs) (high_from a b xs) ys
high-append a b [] ys = refl
high-append a b (x ∷ xs) ys = high-append (a + x) (b + (a + x)) xs ys

pub skip_low : (s front back : List ℕ) (a r m t : ℕ) → s ≡ front ++ back → r ≡ low_from a front % m → low_from a s % m ≡ t → low_from r back % m ≡ t
skip_low s front back a r m t parts is so_far =
    low_same m r (low_from a front) back (ap (λ n. n % m) is ∙ mod-mod (low_from a front) m)
    ∙ ap (λ n. n % m) (sym (low-append a front back)) ∙ (rw parts at so_far)

pub skip_high : (s front back : List ℕ) (a b r h m t : ℕ) → s ≡ front ++ back → r ≡ low_from a front % m → h ≡ high_from a b front % m → high_from a b s % m ≡ t → high_from r h back % m ≡ t
skip_high s front back a b r h m t parts is high so_far =
    high_same m r (low_from a front) h (high_from a b front) back (ap (λ n. n % m) is ∙ mod-mod (low_from a front) m) (ap (λ n. n % m) high ∙ mod-mod (high_from a b front) m)
    ∙ ap (λ n. n % m) (sym (high-append a b front back)) ∙ (rw parts at so_far)

-- ---- the checksum and its two sums

pub adler_from-sums : (a b : ℕ) (bytes : List ℕ) → adler_from a b bytes ≡ high_from a b bytes % 65521 * 65536 + low_from a bytes % 65521
adler_from-sums a b [] = refl
adler_from-sums a b (byte ∷ bytes) = adler_from-sums (a + byte) (b + (a + byte)) bytes

low_back : (low high : ℕ) → low < 65521 → (high * 65536 + low) % 65536 ≡ low
low_back low high fits = omega (arith, fits)

high_back : (low high : ℕ) → low < 65521 → (high * 65536 + low) / 65536 ≡ high
high_back low high fits = omega (arith, fits)

-- gone on with from the two sums, which the checksum keeps apart
pub adler_on-sums : (sum low high : ℕ) (bytes : List ℕ) → high * 65536 + low ≡ sum → low < 65521
    → high_from low high bytes % 65521 * 65536 + low_from low bytes % 65521 ≡ adler_on sum bytes
adler_on-sums sum low high bytes is fits =
    sym (adler_from-sums low high bytes)
    ∙ ap₂ (λ a b. adler_from a b bytes) (sym (low_back low high fits) ∙ ap (λ n. n % 65536) is) (sym (high_back low high fits) ∙ ap (λ n. n / 65536) is)

-- gone on with from the checksum of some bytes, it is that of all
pub adler_on-adler_of : (before bytes : List ℕ) → adler_on (adler_of before) bytes ≡ adler_of (before ++ bytes)
adler_on-adler_of before bytes =
    let l = low_from 1 before in
    let h = high_from 1 0 before in
    let fits : l % 65521 < 65521 = omega arith in
    sym (adler_on-sums (adler_of before) (l % 65521) (h % 65521) bytes (sym (adler_from-sums 1 0 before)) fits)
    ∙ ap₂ (λ x y. x * 65536 + y)
    (high_same 65521 (l % 65521) l (h % 65521) h bytes (mod-mod l 65521) (mod-mod h 65521) ∙ ap (λ n. n % 65521) (sym (high-append 1 0 before bytes)))
    (low_same 65521 (l % 65521) l bytes (mod-mod l 65521) ∙ ap (λ n. n % 65521) (sym (low-append 1 before bytes)))
    ∙ sym (adler_from-sums 1 0 (before ++ bytes))
