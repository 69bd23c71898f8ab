-- Writing items one after the other. Assumes nothing.
use Rattle.std.proofs.Common.{◌≡◌, ℕ, zero, suc, ◌+◌, ◌<◌, ◌≤◌, Bool, true, false, ◌&&◌, eqb, List, [], ◌∷◌, ◌++◌, map, length, get_or, take, drop, sym, refl, ap, subst, ◌∙◌, append_assoc, append-nil, arith, length-append}
use Rattle.std.proofs.lemmas.List.{drop_more, drop-map}
use Rattle.std.proofs.lemmas.Bool.{ne_eqb}
use Rattle.telegram.specs.Value.{Value}
use Rattle.spelling.specs.Canon.{Canon, written}
use Rattle.spelling.specs.declared.put.Output.{Output}
use Rattle.spelling.specs.Output.{HasRoom, Puts}
use Rattle.spelling.proofs.Puts.{puts_puts, puts_room}

pub one : {X Y : Type 0} (f : X → Y) (xs : List X) (i : ℕ) (d : X) → i < length xs → drop i (map f xs) ≡ f (get_or xs i d) ∷ drop (i + 1) (map f xs)
one f xs i d h = drop-map f i xs ∙ ap (map f) (drop_more xs i d h) ∙ ap (λ l. f (get_or xs i d) ∷ l) (sym (drop-map f (i + 1) xs))

-- items behind others
pub written_join : (canon : Canon) (first : Bool) (v : Value) (vs ws : List Value) → written canon first ((v ∷ vs) ++ ws) ≡ written canon first (v ∷ vs) ++ written canon false ws
written_join canon first v [] ws = ap (λ l. l ++ written canon false ws) (sym (append-nil (canon first v)))
written_join canon first v (w ∷ vs) ws = ap (λ l. canon first v ++ l) (written_join canon false w vs ws) ∙ sym (append_assoc (canon first v) (written canon false (w ∷ vs)) (written canon false ws))

pub written_joined : (canon : Canon) (first : Bool) (vs ws : List Value) → 1 ≤ length vs → written canon first (vs ++ ws) ≡ written canon first vs ++ written canon false ws
written_joined canon first [] ws h = absurd (omega arith)
written_joined canon first (v ∷ vs) ws h = written_join canon first v vs ws

-- items behind any others, the first of all as a telegram's first
pub written_behind : (canon : Canon) (vs ws : List Value) → written canon true (vs ++ ws) ≡ written canon true vs ++ written canon (eqb (length vs) 0) ws
written_behind canon [] ws = refl
written_behind canon (v ∷ vs) ws = written_join canon true v vs ws ∙ ap (λ b. written canon true (v ∷ vs) ++ written canon b ws) (sym (ne_eqb (length (v ∷ vs)) 0 (λ e. omega arith)))

-- no item but that of index 0 is a first
pub not_first : (first : Bool) (i : ℕ) → (first && eqb (i + 1) 0) ≡ false
not_first true i = ne_eqb (i + 1) 0 (λ e. omega arith)
not_first false i = refl

-- so much is written on an output, and the values that are left make it all
pub record Filling (canon : Canon) (all : List ℕ) (first : Bool) (left : List Value) (old new : Output) : Type 0 where
  pub done : List ℕ
  pub puts : Puts old done new
  pub whole : done ++ written canon first left ≡ all

pub filling_as : {canon : Canon} {all : List ℕ} {a b : Bool} {left : List Value} {old out : Output} → a ≡ b → Filling canon all a left old out → Filling canon all b left old out
filling_as {canon} {all} {a} {b} {left} {old} {out} e f = subst (λ x. Filling canon all x left old out) e f

module _ (canon : Canon) (all : List ℕ) (first : Bool) (left after : List Value) (v : Value) (old out : Output) (f : Filling canon all first left old out) (e : left ≡ v ∷ after) where
  split : all ≡ (f.done ++ canon first v) ++ written canon false after
  split = sym f.whole ∙ ap (λ vs. f.done ++ written canon first vs) e ∙ sym (append_assoc f.done (canon first v) (written canon false after))

  pub filling_room : HasRoom old (length all) → HasRoom out (length (canon first v))
  filling_room h =
      puts_room (length (canon first v)) f.puts
      (omega (arith, h, ap length split, length-append (f.done ++ canon first v) (written canon false after), length-append f.done (canon first v)))

  pub filling_more : (new : Output) → Puts out (canon first v) new → Filling canon all false after old new
  filling_more new p = record { done = f.done ++ canon first v; puts = puts_puts f.puts p; whole = sym split }

pub filling_all : (canon : Canon) (all : List ℕ) (first : Bool) (left : List Value) (old out : Output) → Filling canon all first left old out → left ≡ [] → Puts old all out
filling_all canon all first left old out f e = subst (λ w. Puts old w out) (sym (append-nil f.done) ∙ ap (λ vs. f.done ++ written canon first vs) (sym e) ∙ f.whole) f.puts

pub take_one : {X : Type 0} (n m : ℕ) (xs after : List X) (v : X) → m + 1 ≡ n → xs ≡ v ∷ after → take n xs ≡ v ∷ take m after
take_one zero m xs after v h e = absurd (omega arith)
take_one (suc n) m xs after v h e = let k : n ≡ m = omega arith in ap (take (suc n)) e ∙ ap (λ k. v ∷ take k after) k

pub take_none : {X : Type 0} (n : ℕ) (xs : List X) → (0 < n → xs ≡ []) → take n xs ≡ []
take_none zero xs e = refl
take_none (suc n) xs e = ap (take (suc n)) (e (omega arith))
