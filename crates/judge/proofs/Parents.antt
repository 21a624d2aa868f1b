-- A parent's line at a place, by what stands at the front there. Assumes nothing.
use Rattle.std.specs.Prelude.{Some}
use mathlib.Core.Bool.{true, ◌&&◌}
use mathlib.Core.List.{List, [], ◌∷◌, ◌++◌}
use mathlib.Core.Path.{◌≡◌, sym, ap, ◌∙◌}
use Prim.Native.Nat.{ℕ, ◌+◌}
use native.Mathlib.Omega.{arith}
use lib.Dec.{T, eqb, eqb→eq}
use lib.ListN.{length, take, drop, take-append-drop, length-append}
use Rattle.rules.specs.Bytes.{bytes, LF, space}
use Rattle.rules.specs.Lines.{inner, lines}
use Rattle.rules.specs.Lists.{All, all, first, starts}
use Rattle.rules.proofs.Lists.{and_left, and_right, all_append, all_of, is_true}
use Rattle.rules.proofs.White.{starts_is}
use Rattle.commit.specs.Grammar.{name_byte, hex_digit}
use Rattle.commit.specs.Reader.{names, identifier}
use Rattle.commit.specs.declared.Phase.{Phase}
use Rattle.commit.specs.declared.Turn.{Turn}
use Rattle.commit.proofs.Shapes.{names_of, hex_inner, T_all}
use Rattle.commit.proofs.Accepts.{whole_line}
use Rattle.header.specs.Front.{id_front, parent_front}
use Rattle.judge.specs.Scan.{LineTurn, turned}
use Rattle.judge.proofs.Cuts.{built}

lf_first : (s : List ℕ) → T (first (λ (c : ℕ). eqb c LF) s) → s ≡ LF ∷ drop 1 s
lf_first [] t = absurd t
lf_first (c ∷ s) t = ap (λ (z : ℕ). z ∷ s) (eqb→eq c LF t)

-- its digits, and what is behind its LF
record ParentLine (size : ℕ) (s : List ℕ) : Type 0 where
  digits : List ℕ
  behind : List ℕ
  is : s ≡ bytes "parent " ++ (digits ++ LF ∷ behind)
  good : identifier size digits ≡ true

parent : (size : ℕ) (s : List ℕ) → parent_front size s ≡ true → ParentLine size s
parent size s e =
    let w : List ℕ = drop 7 s in
    let t : T (parent_front size s) = rw e tt in
    let i : T (id_front size w) = and_right (starts (bytes "parent ") s) (id_front size w) t in
    let d : T (identifier size (take size w)) = and_left (identifier size (take size w)) (first (λ (c : ℕ). eqb c LF) (drop size w)) i in
    let l : drop size w ≡ LF ∷ drop 1 (drop size w) = lf_first (drop size w) (and_right (identifier size (take size w)) (first (λ (c : ℕ). eqb c LF) (drop size w)) i) in
    record {
      digits = take size w;
      behind = drop 1 (drop size w);
      is = starts_is (bytes "parent ") s (and_left (starts (bytes "parent ") s) (id_front size w) t)
          ∙ ap (λ (z : List ℕ). bytes "parent " ++ z) (sym (take-append-drop size w) ∙ ap (λ (z : List ℕ). take size w ++ z) l);
      good = is_true (identifier size (take size w)) d;
    }

sized : (size : ℕ) (d : List ℕ) → identifier size d ≡ true → (length d ≡ size) × All hex_digit d
unfolding identifier
sized size d e =
    let t : T (eqb (length d) size && all hex_digit d) = rw e tt in
    (eqb→eq (length d) size (and_left (eqb (length d) size) (all hex_digit d) t), T_all hex_digit d (and_right (eqb (length d) size) (all hex_digit d) t))

name_bytes : All name_byte (bytes "parent")
unfolding name_byte
name_bytes = T_all name_byte (bytes "parent") tt

pub parent_line : (s : List ℕ) (at size : ℕ) → parent_front size (drop at s) ≡ true
    → LineTurn s at (Phase.Parents size) (turned (at + size + 8) (Some (Turn.To (Phase.Parents size))))
parent_line s at size e =
    let p = parent size (drop at s) e in
    let d = p.digits in
    let i = sized size d p.good in
    let a : All inner d = all_of hex_digit inner hex_inner d i.1 in
    built s at (Phase.Parents size) (bytes "parent" ++ space ∷ (d ++ LF ∷ [])) (lines p.behind) (names (bytes "parent") d) (at + size + 8)
    (turned (at + size + 8) (Some (Turn.To (Phase.Parents size))))
    (ap lines p.is ∙ whole_line (bytes "parent " ++ d) p.behind (all_append inner (bytes "parent ") d (T_all inner (bytes "parent ") tt) a))
    (names_of (bytes "parent") d tt name_bytes a)
    (omega (arith, i.0, length-append d (LF ∷ [])))
    (rw p.good)
