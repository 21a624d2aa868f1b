-- Reading what was written gives the messages; what is read as a bundle of messages is their bundle, so of these alone.
-- Assumes nothing.
use Rattle.std.specs.Prelude.{None, Some, if◌then◌else◌}
use mathlib.Core.Bool.{Bool, true, false, ◌&&◌}
use mathlib.Core.List.{List, [], ◌∷◌, ◌++◌, map, append_assoc}
use mathlib.Core.Path.{◌≡◌, refl, sym, ap, ◌∙◌}
use Prim.Native.Nat.{ℕ, zero, suc, ◌+◌, ◌-◌, ◌*◌, ◌≤◌, ◌<◌}
use native.Mathlib.Nat.{add-suc, add-zero, suc-add, zero-add}
use native.Mathlib.Omega.{arith}
use borrow.Author.Tests.{eq-eqb, le-leb, le-ltb, ltb-false}
use lib.Dec.{T, eqb, leb, ltb, leb→le, eqb→eq}
use lib.ListN.{length, get_or, take, drop, length-append, length-drop, length-take, take-append-drop}
use lib.Seq.{drop-drop, drop-length, take-add, length-take-le, drop-append_seam, take-append_seam, drop_at}
use Rattle.rules.specs.Lists.{All, join}
use Rattle.rules.proofs.Lists.{all_left, all_right, and_left, and_right}
use Rattle.bundle.specs.Bundle.{IsBundle, bundle_of, byte, count_of, ends, header_length, header_numbers, is_bundle, last_of, message_at, messages_in, most, none_falls, offset, offsets, offsets_good, parts, read_bundle, u32_at, u32_top, u32le}
use Rattle.bundle.proofs.Numbers.{length_u32, u32_value, u32_written, value_fits}

-- ---- lengths

pub length_numbers : (xs : List ℕ) → length (join (map u32le xs)) ≡ 4 * length xs
length_numbers [] = refl
length_numbers (x ∷ xs) = omega (arith, length-append (u32le x) (join (map u32le xs)), length_u32 x, length_numbers xs)

pub length-ends : (at : ℕ) (ms : List (List ℕ)) → length (ends at ms) ≡ length ms
length-ends at [] = refl
length-ends at (m ∷ ms) = ap suc (length-ends (at + length m) ms)

pub length-offsets : (b : List ℕ) (k n : ℕ) → length (offsets b k n) ≡ n
length-offsets b k zero = refl
length-offsets b k (suc n) = ap suc (length-offsets b (suc k) n)

pub length-parts : (b : List ℕ) (x : ℕ) (os : List ℕ) → length (parts b x os) ≡ length os
length-parts b x [] = refl
length-parts b x (y ∷ os) = ap suc (length-parts b y os)

-- as many messages as the count says
pub messages_count : (b : List ℕ) → length (messages_in b) ≡ count_of b
unfolding messages_in
messages_count b = length-parts b (offset b 0) (offsets b 1 (count_of b)) ∙ length-offsets b 1 (count_of b)

-- the bundle's length
pub length_bundle : (ms : List (List ℕ)) → length (bundle_of ms) ≡ header_length (length ms) + length (join ms)
unfolding bundle_of
length_bundle ms =
    omega (
      arith,
      length-append (join (map u32le (header_numbers ms))) (join ms),
      length_numbers (header_numbers ms),
      length-ends (header_length (length ms)) ms,
    )

-- at most 4,096 messages whose bundle's length is a u32 have a bundle
pub bundle_is : (ms : List (List ℕ)) → length ms ≤ most → length (bundle_of ms) < u32_top → IsBundle (bundle_of ms) ms
bundle_is ms m f = record { written = refl; at_most = m; fits = f }

-- ---- reading what was written

abbrev Fit : List ℕ → Type 0
Fit [] = Unit {0}
Fit (x ∷ xs) = (x < u32_top) × Fit xs

ends_fit : (at : ℕ) (ms : List (List ℕ)) → at + length (join ms) < u32_top → Fit (ends at ms)
ends_fit at [] h = tt
ends_fit at (m ∷ ms) h =
    let l : length (join (m ∷ ms)) ≡ length m + length (join ms) = length-append m (join ms) in
    (omega arith, ends_fit (at + length m) ms (omega arith))

offsets_written : (os : List ℕ) (b p q : List ℕ) (k : ℕ) → b ≡ p ++ (join (map u32le os) ++ q) → length p ≡ 4 + 4 * k → Fit os → offsets b k (length os) ≡ os
offsets_written [] b p q k e l f = refl
offsets_written (o ∷ os) b p q k e l f =
    let e₁ : b ≡ p ++ (u32le o ++ (join (map u32le os) ++ q)) = e ∙ simp append_assoc in
    let e₂ : b ≡ (p ++ u32le o) ++ (join (map u32le os) ++ q) = e ∙ simp append_assoc in
    let l₂ : length (p ++ u32le o) ≡ 4 + 4 * suc k = omega (arith, length-append p (u32le o), length_u32 o) in
    let this : offset b k ≡ o = ap (λ s. u32_at s (4 + 4 * k)) e₁ ∙ u32_written p o (4 + 4 * k) (join (map u32le os) ++ q) l f.0 in
    let those : offsets b (suc k) (length os) ≡ os = offsets_written os b (p ++ u32le o) q (suc k) e₂ l₂ f.1 in
    cc

ends_rise : (x : ℕ) (ms : List (List ℕ)) → none_falls x (ends x ms) ≡ true
ends_rise x [] = refl
ends_rise x (m ∷ ms) = rw (le-leb x (x + length m) (omega arith), ends_rise (x + length m) ms)

ends_last : (x : ℕ) (ms : List (List ℕ)) → last_of x (ends x ms) ≡ x + length (join ms)
ends_last x [] = omega arith
ends_last x (m ∷ ms) = omega (arith, ends_last (x + length m) ms, length-append m (join ms))

ends-parts : (b : List ℕ) (x : ℕ) (ms : List (List ℕ)) → drop x b ≡ join ms → parts b x (ends x ms) ≡ ms
ends-parts b x [] e = refl
ends-parts b x (m ∷ ms) e =
    let size : (x + length m) - x ≡ length m = omega arith in
    let this : take (length m) (drop x b) ≡ m = rw e (take-append_seam m (join ms)) in
    let behind : drop (x + length m) b ≡ join ms = sym (drop-drop (length m) x b) ∙ rw e (drop-append_seam m (join ms)) in
    rw (size, this, ends-parts b (x + length m) ms behind)

-- every test is passed
judged_true : (b : List ℕ) (n x : ℕ) (os : List ℕ) → count_of b ≡ n → offset b 0 ≡ x → offsets b 1 n ≡ os → 8 ≤ length b → n ≤ most → header_length n ≤ length b → x ≡ header_length n → none_falls x os ≡ true → last_of x os ≡ length b → is_bundle b ≡ true
unfolding is_bundle
judged_true b n x os c f o l m h e r t =
    rw (c, f, o, r, le-ltb (length b) 8 l, le-ltb most n m, le-ltb (length b) (header_length n) h, eq-eqb x (header_length n) e, eq-eqb (last_of x os) (length b) t)

pub read_written : (b : List ℕ) (ms : List (List ℕ)) → IsBundle b ms → read_bundle b ≡ Some ms
unfolding bundle_of messages_in
read_written b ms is =
    let n = length ms in
    let h = header_length n in
    let es = ends h ms in
    let size : length b ≡ h + length (join ms) = ap length is.written ∙ length_bundle ms in
    let e : b ≡ u32le n ++ (join (map u32le (h ∷ es)) ++ join ms) = is.written ∙ simp append_assoc in
    let count : count_of b ≡ n = ap (λ s. u32_at s 0) e ∙ u32_written [] n 0 (join (map u32le (h ∷ es)) ++ join ms) refl (omega (arith, is.at_most)) in
    let all : offset b 0 ∷ offsets b 1 (length es) ≡ h ∷ es = offsets_written (h ∷ es) b (u32le n) (join ms) 0 e (length_u32 n) (omega (arith, is.fits), ends_fit h ms (omega (arith, is.fits))) in
    let first : offset b 0 ≡ h = cc in
    let long : length es ≡ n = length-ends h ms in
    let later : offsets b 1 n ≡ es = ap (λ k. offsets b 1 k) (sym long) ∙ cc in
    let front : length (join (map u32le (header_numbers ms))) ≡ h = omega (arith, length_numbers (header_numbers ms), long) in
    let behind : drop h b ≡ join ms = ap (drop h) is.written ∙ drop_at (join (map u32le (header_numbers ms))) (join ms) h front in
    let good : is_bundle b ≡ true = judged_true b n h es count first later (omega arith) is.at_most (omega arith) refl (ends_rise h ms) (ends_last h ms ∙ sym size) in
    let read : messages_in b ≡ ms = rw (count, first, later) (ends-parts b h ms behind) in
    rw (good, read)

-- "Write and read it": what was written is read as the messages
pub read_back : (ms : List (List ℕ)) → length ms ≤ most → length (bundle_of ms) < u32_top → read_bundle (bundle_of ms) ≡ Some ms
read_back ms m f = read_written (bundle_of ms) ms (bundle_is ms m f)

-- ---- what is read was written

pub holds : (t : Bool) → t ≡ true → T t
holds t e = rw e tt

-- what the tests say
pub record Passed (b : List ℕ) : Type 0 where
  pub header_fits : header_length (count_of b) ≤ length b
  pub few : count_of b ≤ most
  pub first : offset b 0 ≡ header_length (count_of b)
  pub rise : T (none_falls (offset b 0) (offsets b 1 (count_of b)))
  pub last : last_of (offset b 0) (offsets b 1 (count_of b)) ≡ length b

pub passed : (b : List ℕ) → is_bundle b ≡ true → Passed b
unfolding is_bundle
passed b e = go (ltb (length b) 8) (ltb most (count_of b)) (ltb (length b) (header_length (count_of b))) refl refl e
  where
    go : (t₁ t₂ t₃ : Bool) → ltb most (count_of b) ≡ t₂ → ltb (length b) (header_length (count_of b)) ≡ t₃ → (if t₁ then false else if t₂ then false else if t₃ then false else offsets_good b (count_of b)) ≡ true → Passed b
    go true t₂ t₃ f₂ f₃ e = absurd (holds false e)
    go false true t₃ f₂ f₃ e = absurd (holds false e)
    go false false true f₂ f₃ e = absurd (holds false e)
    go false false false f₂ f₃ e =
        let n = count_of b in
        let x = offset b 0 in
        let os = offsets b 1 n in
        let t : T (offsets_good b n) = holds (offsets_good b n) e in
        let u : T (none_falls x os && eqb (last_of x os) (length b)) = and_right (eqb x (header_length n)) (none_falls x os && eqb (last_of x os) (length b)) t in
        record {
          header_fits = ltb-false (length b) (header_length n) f₃;
          few = ltb-false most n f₂;
          first = eqb→eq x (header_length n) (and_left (eqb x (header_length n)) (none_falls x os && eqb (last_of x os) (length b)) t);
          rise = and_left (none_falls x os) (eqb (last_of x os) (length b)) u;
          last = eqb→eq (last_of x os) (length b) (and_right (none_falls x os) (eqb (last_of x os) (length b)) u);
        }

part_bytes : (b : List ℕ) (at n : ℕ) → All byte b → All byte (take n (drop at b))
part_bytes b at n a =
    let behind : All byte (drop at b) = all_right byte (take at b) (drop at b) (rw (take-append-drop at b) a) in
    all_left byte (take n (drop at b)) (drop n (drop at b)) (rw (take-append-drop n (drop at b)) behind)

u32_read : (b : List ℕ) (at : ℕ) → All byte b → at + 4 ≤ length b → u32le (u32_at b at) ≡ take 4 (drop at b)
unfolding u32_at
u32_read b at a h = u32_value (take 4 (drop at b)) (length-take-le 4 (drop at b) (omega (arith, length-drop at b))) (part_bytes b at 4 a)

u32_fits : (b : List ℕ) (at : ℕ) → All byte b → u32_at b at < u32_top
unfolding u32_at
u32_fits b at a = value_fits (take 4 (drop at b)) (omega (arith, length-take 4 (drop at b))) (part_bytes b at 4 a)

numbers_read : (b : List ℕ) (n k : ℕ) → All byte b → 4 + 4 * (k + n) ≤ length b → join (map u32le (offsets b k n)) ≡ take (4 * n) (drop (4 + 4 * k) b)
numbers_read b zero k a h = refl
numbers_read b (suc n) k a h =
    let all : 4 * suc n ≡ 4 + 4 * n = omega arith in
    let next : 4 + 4 * suc k ≡ (4 + 4 * k) + 4 = omega arith in
    let those : join (map u32le (offsets b (suc k) n)) ≡ take (4 * n) (drop ((4 + 4 * k) + 4) b) = rw (← next) (numbers_read b n (suc k) a (omega arith)) in
    rw (all, take-add 4 (4 * n) (drop (4 + 4 * k) b), drop-drop 4 (4 + 4 * k) b, u32_read b (4 + 4 * k) a (omega arith), those)

pub last_le : (x : ℕ) (os : List ℕ) → T (none_falls x os) → x ≤ last_of x os
last_le x [] t = omega arith
last_le x (y ∷ os) t = omega (arith, leb→le x y (and_left (leb x y) (none_falls y os) t), last_le y os (and_right (leb x y) (none_falls y os) t))

parts-ends : (b : List ℕ) (x : ℕ) (os : List ℕ) → T (none_falls x os) → last_of x os ≤ length b → ends x (parts b x os) ≡ os
parts-ends b x [] t h = refl
parts-ends b x (y ∷ os) t h =
    let le : x ≤ y = leb→le x y (and_left (leb x y) (none_falls y os) t) in
    let more : T (none_falls y os) = and_right (leb x y) (none_falls y os) t in
    let long : length (take (y - x) (drop x b)) ≡ y - x = length-take-le (y - x) (drop x b) (omega (arith, length-drop x b, last_le y os more)) in
    let at : x + length (take (y - x) (drop x b)) ≡ y = omega arith in
    rw (at, parts-ends b y os more h)

parts_join : (b : List ℕ) (x : ℕ) (os : List ℕ) → T (none_falls x os) → last_of x os ≡ length b → join (parts b x os) ≡ drop x b
parts_join b x [] t h = rw h (sym (drop-length b))
parts_join b x (y ∷ os) t h =
    let le : x ≤ y = leb→le x y (and_left (leb x y) (none_falls y os) t) in
    let more : T (none_falls y os) = and_right (leb x y) (none_falls y os) t in
    let at : x + (y - x) ≡ y = omega arith in
    let behind : drop y b ≡ drop (y - x) (drop x b) = rw (drop-drop (y - x) x b, at) in
    rw (parts_join b y os more h, behind) (take-append-drop (y - x) (drop x b))

last_fits : (b : List ℕ) (n k x : ℕ) → All byte b → x < u32_top → last_of x (offsets b k n) < u32_top
last_fits b zero k x a h = h
last_fits b (suc n) k x a h = last_fits b n (suc k) (offset b k) a (u32_fits b (4 + 4 * k) a)

pub written_read : (b : List ℕ) → All byte b → is_bundle b ≡ true → IsBundle b (messages_in b)
unfolding bundle_of messages_in
written_read b a e =
    let n = count_of b in
    let x = offset b 0 in
    let os = offsets b 1 n in
    let h = header_length n in
    let p : Passed b = passed b e in
    let count : length (messages_in b) ≡ n = messages_count b in
    let first : x ≡ h = p.first in
    let laid : ends x (parts b x os) ≡ os = parts-ends b x os p.rise (omega (arith, p.last)) in
    let behind : join (parts b x os) ≡ drop x b = parts_join b x os p.rise p.last in
    let numbers : join (map u32le (offsets b 0 (suc n))) ≡ take (4 * suc n) (drop 4 b) = numbers_read b (suc n) 0 a (omega (arith, p.header_fits)) in
    let front : u32le n ≡ take 4 b = u32_read b 0 a (omega (arith, p.header_fits)) in
    let cut : h ≡ 4 + 4 * suc n = omega arith in
    let whole : take 4 b ++ (take (4 * suc n) (drop 4 b) ++ drop h b) ≡ b = rw (cut, ← drop-drop (4 * suc n) 4 b, take-append-drop (4 * suc n) (drop 4 b)) (take-append-drop 4 b) in
    record {
      written = sym (rw (count, ← first, laid, behind, append_assoc, numbers, front) (rw first whole));
      at_most = rw count p.few;
      fits = rw (← p.last) (last_fits b n 1 x a (u32_fits b 4 a));
    }

-- what is read as the bundle of some messages is the bundle of just these
pub read_is : (b : List ℕ) (ms : List (List ℕ)) → All byte b → read_bundle b ≡ Some ms → IsBundle b ms
read_is b ms a e = go (is_bundle b) refl e
  where
    go : (t : Bool) → is_bundle b ≡ t → (if t then Some (messages_in b) else None) ≡ Some ms → IsBundle b ms
    go true j e =
        let same : messages_in b ≡ ms = cc in
        rw (← same) (written_read b a j)
    go false j e = absurd (let z : ◌≡◌ {A = ℕ} 0 1 = cc in omega arith)

-- bytes are the bundle of one list of messages at most
pub one_list : (b : List ℕ) (ms ns : List (List ℕ)) → IsBundle b ms → IsBundle b ns → ms ≡ ns
one_list b ms ns p q =
    let e : Some ms ≡ Some ns = sym (read_written b ms p) ∙ read_written b ns q in
    cc

-- what was read, written again, is the same bytes
pub written_again : (b : List ℕ) (ms : List (List ℕ)) → All byte b → read_bundle b ≡ Some ms → bundle_of ms ≡ b
written_again b ms a e = sym (read_is b ms a e).written

-- what is not read as a bundle is the bundle of no list of messages
pub no_bundle : (b : List ℕ) → read_bundle b ≡ None → (ms : List (List ℕ)) → IsBundle b ms → ⊥
no_bundle b e ms is =
    let f : None ≡ Some ms = sym e ∙ read_written b ms is in
    absurd (let z : ◌≡◌ {A = ℕ} 0 1 = cc in omega arith)

-- ---- one message

parts_at : (b : List ℕ) (k j n : ℕ) → j < n → get_or (parts b (offset b k) (offsets b (suc k) n)) j [] ≡ message_at b (k + j)
parts_at b k j zero h = absurd (omega arith)
parts_at b k zero (suc n) h = rw (add-zero k)
parts_at b k (suc j) (suc n) h = rw (add-suc k j) (parts_at b (suc k) j n (omega arith) ∙ rw (suc-add k j))

-- message k is the one from offset k up to offset k + 1
pub message_at_lem : (b : List ℕ) (k : ℕ) → k < count_of b → get_or (messages_in b) k [] ≡ message_at b k
unfolding messages_in
message_at_lem b k h = parts_at b 0 k (count_of b) h ∙ rw (zero-add k)
