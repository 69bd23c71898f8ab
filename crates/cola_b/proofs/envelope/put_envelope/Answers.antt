use Rattle.std.proofs.Common.{◌≡◌, ℕ, ◌+◌, ◌-◌, List, [], ◌∷◌, ◌++◌, length, take, drop, slice_set, refl, ap, ◌∙◌, subst, arith}
use borrow.Rule.Slice.PartMut.{put_mid}
use Rattle.spelling.specs.Canon.{fixed}
use Rattle.spelling.specs.Write.{Put}
use Rattle.spelling.proofs.Digitals.{four_bytes}
use Rattle.spelling.proofs.Puts.{put_is, put_mid_lem, put_put, put_one, put_long, enclosed_by}
use Rattle.cola_b.specs.Envelope.{header, checksum, wrap_binary}
use Rattle.cola_b.proofs.envelope.put_envelope.Goals as goal

pub returns : goal.returns
returns c =
    let old : List ℕ = c.args.out.now in
    let body : List ℕ = take (c.args.to - 8) (drop 8 old) in
    let is : c.body_in-body.result.now ≡ body = c.body_in-body.ensures in
    let mid : List ℕ = c.copy_from_slice.new.self ++ drop 4 old in
    let head : Put old 0 header mid 4 = put_is old mid header 0 4 refl (omega (arith, c.requires.room, c.requires.front)) (ap (λ l. l ++ drop 4 old) c.copy_from_slice.ensures.after) in
    let written : c.copy_from_slice-2.new.self ≡ fixed 256 4 (length body) = c.copy_from_slice-2.ensures.after ∙ c.to_be_bytes.ensures ∙ four_bytes c.stated_length-length.result ∙ ap (fixed 256 4) (c.stated_length-length.ensures ∙ ap length is) in
    let long : length mid ≡ length old = put_long head (omega (arith, c.requires.room, c.requires.front)) in
    let front : List ℕ = put_mid 4 4 mid c.copy_from_slice-2.new.self in
    let stated : Put mid 4 (fixed 256 4 (length body)) front 8 = put_mid_lem mid c.copy_from_slice-2.new.self (fixed 256 4 (length body)) 4 (omega (arith, long, c.requires.room, c.requires.front)) written in
    let both : Put old 0 (header ++ fixed 256 4 (length body)) front 8 = put_put header (fixed 256 4 (length body)) head stated in
    let behind : c.checksum-sum.result ∷ [] ≡ checksum body ∷ [] = ap (λ x. x ∷ []) (c.checksum-sum.ensures ∙ ap checksum is) in
    let all : List ℕ = slice_set front c.args.to c.checksum-sum.result in
    enclosed_by wrap_binary old front all c.args.to 8 _ c.requires.front refl refl both
    (subst (λ w. Put front c.args.to w all (c.args.to + 1)) behind (put_one front c.args.to c.checksum-sum.result (omega (arith, put_long both (omega (arith, c.requires.room, c.requires.front)), c.requires.room))))
