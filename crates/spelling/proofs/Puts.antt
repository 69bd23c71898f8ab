-- One write after another. Assumes nothing.
use Rattle.std.proofs.Common.{◌≡◌, ℕ, ◌+◌, ◌-◌, ◌<◌, ◌≤◌, List, [], ◌∷◌, ◌++◌, slice_set, length, take, drop, sym, refl, ap, ◌∙◌, append_assoc, append-nil, arith, length-append, take-append-drop, drop-drop, take-add}
use borrow.Rule.Slice.PartMut.{put_mid}
use Rattle.std.proofs.lemmas.Slice.{take-put_mid, drop-put_mid}
use Rattle.std.proofs.lemmas.List.{take-set, drop-set, take_at, drop_at, length-take, length-drop, drop-take}
use Rattle.spelling.specs.declared.put.Output.{Output}
use Rattle.spelling.specs.Write.{Wrap, Snug, Put, enclosed, wrapped}
use Rattle.spelling.specs.Output.{HasRoom, Puts}

-- what is alike from q on is alike from a later place on
pub drop_later : (xs ys : List ℕ) (q r : ℕ) → q ≤ r → drop q xs ≡ drop q ys → drop r xs ≡ drop r ys
drop_later xs ys q r h e =
    let n : q + (r - q) ≡ r = omega arith in
    let a = ap (drop (r - q)) e in
    ap (λ k. drop k xs) (sym n) ∙ sym (drop-drop (r - q) q xs) ∙ a ∙ drop-drop (r - q) q ys ∙ ap (λ k. drop k ys) n

pub put_put : {old mid new : List ℕ} {p q r : ℕ} (v w : List ℕ) → Put old p v mid q → Put mid q w new r → Put old p (v ++ w) new r
put_put {old} {mid} {new} {p} {q} {r} v w a b = record {
  at = omega (arith, a.at, b.at, length-append v w);
  done = b.done ∙ ap (λ l. l ++ w) a.done ∙ append_assoc (take p old) v w;
  rest = b.rest ∙ drop_later mid old q r (omega (arith, b.at)) a.rest;
}

-- a part of out is written over by bs
pub put_mid_lem : (out ys bs : List ℕ) (p : ℕ) → p + length bs ≤ length out → ys ≡ bs → Put out p bs (put_mid p (p + length bs - p) out ys) (p + length bs)
put_mid_lem out ys bs p room same =
    let long = ap length same in
    record {
      at = refl;
      done = take-put_mid p (p + length bs - p) out ys (p + length bs) (omega arith) (omega arith) ∙ ap (λ l. take p out ++ l) same;
      rest = drop-put_mid p (p + length bs - p) out ys (p + length bs) (omega arith) (omega arith) (omega arith);
    }

pub put_nothing : (out : List ℕ) (p : ℕ) → Put out p [] out p
put_nothing out p = record { at = omega arith; done = sym (append-nil (take p out)); rest = refl }

-- what was written on is as long as before
pub put_long : {old new w : List ℕ} {p r : ℕ} → Put old p w new r → p + length w ≤ length old → length new ≡ length old
put_long {old} {new} {w} {p} {r} h room =
    omega (arith, h.at, ap length h.done, length-append (take p old) w, length-take p old, length-take r new, ap length h.rest, length-drop r new, length-drop r old)

-- One write on an output after another.

pub puts_puts : {old mid new : Output} {v w : List ℕ} → Puts old v mid → Puts mid w new → Puts old (v ++ w) new
puts_puts {old} {mid} {new} {v} {w} a b = record { same = b.same ∙ a.same; put = put_put v w a.put b.put }

-- what is left of an output's room
pub puts_room : {old new : Output} {w : List ℕ} (n : ℕ) → Puts old w new → HasRoom old (length w + n) → HasRoom new n
puts_room {old} {new} {w} n p h = omega (arith, p.put.at, put_long p.put (omega arith), h)

-- an equation on the whole
pub put_is : (old new w : List ℕ) (p n : ℕ) → n ≡ length w → p + n ≤ length old → new ≡ take p old ++ (w ++ drop (p + n) old) → Put old p w new (p + n)
put_is old new w p n e room is =
    let whole : new ≡ (take p old ++ w) ++ drop (p + n) old = is ∙ sym (append_assoc (take p old) w (drop (p + n) old)) in
    let long : length (take p old ++ w) ≡ p + n = omega (arith, length-append (take p old) w, length-take p old) in
    record {
      at = omega arith;
      done = ap (take (p + n)) whole ∙ take_at (take p old ++ w) (drop (p + n) old) (p + n) long;
      rest = ap (drop (p + n)) whole ∙ drop_at (take p old ++ w) (drop (p + n) old) (p + n) long;
    }

-- one byte of out is written over
pub put_one : (out : List ℕ) (p c : ℕ) → p < length out → Put out p (c ∷ []) (slice_set out p c) (p + 1)
put_one out p c h =
    put_is out (slice_set out p c) (c ∷ []) p 1 refl (omega arith)
    (sym (take-append-drop p (slice_set out p c)) ∙ ap (λ l. l ++ drop p (slice_set out p c)) (take-set out p c) ∙ ap (λ l. take p out ++ l) (drop-set out p c h))

-- an envelope written around what stands between its two parts
module _ (w : Wrap) (old mid new : List ℕ) (to q r : ℕ) (le : w.before ≤ to) where
  abbrev body : List ℕ
  body = take (to - w.before) (drop w.before old)

  pub enclosed_by : length (w.front body) ≡ w.before → length (w.behind body) ≡ w.after → Put old 0 (w.front body) mid q → Put mid to (w.behind body) new r → new ≡ enclosed w old to
  enclosed_by f g a b =
      let at_q : q ≡ w.before = omega (arith, a.at, f) in
      let at_r : r ≡ to + w.after = omega (arith, b.at, g) in
      let e : w.before + (to - w.before) ≡ to = omega arith in
      let started : take w.before mid ≡ w.front body = ap (λ n. take n mid) (sym at_q) ∙ a.done in
      let same : drop w.before mid ≡ drop w.before old = ap (λ n. drop n mid) (sym at_q) ∙ a.rest ∙ ap (λ n. drop n old) at_q in
      let upto : take to mid ≡ w.front body ++ body =
      ap (λ n. take n mid) (sym e) ∙ take-add w.before (to - w.before) mid ∙ ap (λ l. l ++ take (to - w.before) (drop w.before mid)) started ∙ ap (λ l. w.front body ++ take (to - w.before) l) same in
      let behind : drop r new ≡ drop (to + w.after) old = b.rest ∙ drop_later mid old q r (omega (arith, at_q, at_r)) a.rest ∙ ap (λ n. drop n old) at_r in
      sym (take-append-drop r new)
      ∙ ap (λ l. l ++ drop r new) (b.done ∙ ap (λ l. l ++ w.behind body) upto)
      ∙ ap (λ l. ((w.front body ++ body) ++ w.behind body) ++ l) behind
      ∙ append_assoc (w.front body ++ body) (w.behind body) (drop (to + w.after) old)
      ∙ append_assoc (w.front body) body (w.behind body ++ drop (to + w.after) old)

-- a body written behind the place of its front, and then enclosed, is the whole at the output's start
pub put_enclosed : (w : Wrap) → Snug w → (old mid b : List ℕ) (end : ℕ) → Put old w.before b mid end → w.before ≤ length old → enclosed w mid end ≡ wrapped w b ++ drop (length (wrapped w b)) old
put_enclosed w snug old mid b end p room =
    let front_long : length (take w.before old) ≡ w.before = omega (arith, length-take w.before old) in
    let e : w.before + (end - w.before) ≡ end = omega (arith, p.at) in
    let body : take (end - w.before) (drop w.before mid) ≡ b =
    sym (drop-take w.before (end - w.before) mid) ∙ ap (λ n. drop w.before (take n mid)) e ∙ ap (drop w.before) p.done ∙ drop_at (take w.before old) b w.before front_long in
    let long : length (wrapped w b) ≡ end + w.after = omega (arith, length-append (w.front b) (b ++ w.behind b), length-append b (w.behind b), snug.front_long b, snug.behind_long b, p.at) in
    let rest : drop (end + w.after) mid ≡ drop (length (wrapped w b)) old = drop_later mid old end (end + w.after) (omega arith) p.rest ∙ ap (λ n. drop n old) (sym long) in
    ap (λ x. w.front x ++ (x ++ (w.behind x ++ drop (end + w.after) mid))) body
    ∙ ap (λ x. w.front b ++ (b ++ (w.behind b ++ x))) rest
    ∙ ap (λ x. w.front b ++ x) (sym (append_assoc b (w.behind b) (drop (length (wrapped w b)) old)))
    ∙ sym (append_assoc (w.front b) (b ++ w.behind b) (drop (length (wrapped w b)) old))
