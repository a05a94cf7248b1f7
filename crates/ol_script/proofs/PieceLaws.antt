-- How a text is cut, and how its pieces make it up again.
use Rattle.std.specs.Prelude.{Bool, List, None, Option, Some, [], false, if◌then◌else◌, not, option_map, refl, true, ℕ, ◌++◌, ◌==◌, ◌∷◌, ◌≡◌}
use Rattle.std.specs.List.{join_with_byte, list_all, onto_first}
use Rattle.std.specs.Option.{is_some}
use Rattle.std.proofs.Common.{ap, eq-eqb, sym, ◌∙◌}
use Rattle.std.proofs.lemmas.Bool.{and_from, and_parts, not-true}
use Rattle.ol_script.specs.Words.{place_by_parts, target_by_parts}
use Rattle.ol_script.specs.Pieces.{first_piece, one_of, pieces_of}
use Rattle.ol_words.specs.Words.{pieces_behind}
use denote.Ref.{Bor}

-- a text has a piece
pub record HasPiece (mark : ℕ) (text : List ℕ) : Type 0 where
  pub piece : List ℕ
  pub pieces : List (List ℕ)
  pub are : pieces_of mark text ≡ piece ∷ pieces

onto_first_has : (b : ℕ) (pieces : List (List ℕ)) → (piece : List ℕ) × (more : List (List ℕ)) × (onto_first b pieces ≡ piece ∷ more)
onto_first_has b [] = (b ∷ [], [], refl)
onto_first_has b (piece ∷ pieces) = (b ∷ piece, pieces, refl)

pub has_piece : (mark : ℕ) (text : List ℕ) → HasPiece mark text
has_piece mark [] = record { piece = []; pieces = []; are = refl }
has_piece mark (b ∷ text) = go (b == mark) refl
  where
    go : (u : Bool) → (b == mark) ≡ u → HasPiece mark (b ∷ text)
    go true at = record { piece = []; pieces = pieces_of mark text; are = ap (λ v. if v then [] ∷ pieces_of mark text else onto_first b (pieces_of mark text)) at }
    go false at =
        let w = onto_first_has b (pieces_of mark text) in
        record { piece = w.0; pieces = w.1; are = ap (λ v. if v then [] ∷ pieces_of mark text else onto_first b (pieces_of mark text)) at ∙ w.2 }

-- ---- pieces joined

-- a piece does not have the byte that parts pieces
abbrev pub lacks : ℕ → List ℕ → Bool
lacks mark piece = list_all (λ b. not (b == mark)) piece

pub pieces_front : (mark : ℕ) (piece text : List ℕ) → lacks mark piece ≡ true → pieces_of mark (piece ++ mark ∷ text) ≡ piece ∷ pieces_of mark text
pieces_front mark [] text e = ap (λ u. if u then [] ∷ pieces_of mark text else onto_first mark (pieces_of mark text)) (eq-eqb mark mark refl)
pieces_front mark (b ∷ piece) text e =
    let a = and_parts (not (b == mark)) (lacks mark piece) e in
    ap (λ u. if u then [] ∷ pieces_of mark (piece ++ mark ∷ text) else onto_first b (pieces_of mark (piece ++ mark ∷ text))) (not-true (b == mark) a.0)
    ∙ ap (onto_first b) (pieces_front mark piece text a.1)

pub pieces_whole : (mark : ℕ) (piece : List ℕ) → lacks mark piece ≡ true → pieces_of mark piece ≡ piece ∷ []
pieces_whole mark [] e = refl
pieces_whole mark (b ∷ piece) e =
    let a = and_parts (not (b == mark)) (lacks mark piece) e in
    ap (λ u. if u then [] ∷ pieces_of mark piece else onto_first b (pieces_of mark piece)) (not-true (b == mark) a.0)
    ∙ ap (onto_first b) (pieces_whole mark piece a.1)

-- pieces that are joined are those of the text
pub pieces-joined : (mark : ℕ) (piece : List ℕ) (pieces : List (List ℕ)) → lacks mark piece ≡ true → list_all (lacks mark) pieces ≡ true → pieces_of mark (join_with_byte mark (piece ∷ pieces)) ≡ piece ∷ pieces
pieces-joined mark piece [] e all = pieces_whole mark piece e
pieces-joined mark piece (next ∷ pieces) e all =
    let a = and_parts (lacks mark next) (list_all (lacks mark) pieces) all in
    pieces_front mark piece (join_with_byte mark (next ∷ pieces)) e ∙ ap (λ (l : List (List ℕ)). piece ∷ l) (pieces-joined mark next pieces a.0 a.1)

-- bytes of a kind that the byte which parts pieces is not of
pub lacks_by : (mark : ℕ) (p : ℕ → Bool) → ((b : ℕ) → p b ≡ true → (b == mark) ≡ false) → (piece : List ℕ) → list_all p piece ≡ true → lacks mark piece ≡ true
lacks_by mark p other [] e = refl
lacks_by mark p other (b ∷ piece) e =
    let a = and_parts (p b) (list_all p piece) e in
    and_from (not (b == mark)) (lacks mark piece) (ap not (other b a.0)) (lacks_by mark p other piece a.1)

-- more than one piece
one_of_several : (pieces : List (List ℕ)) (piece next : List ℕ) (more : List (List ℕ)) → first_piece pieces ≡ Some (piece, next ∷ more) → one_of pieces ≡ None
one_of_several [] piece next more e = cc
one_of_several (p ∷ []) piece next more e =
    let f = ap (λ (o : Option (List ℕ × List (List ℕ))). option_map (λ (q : List ℕ × List (List ℕ)). q.1) o) e in
    cc
one_of_several (p ∷ q ∷ pieces) piece next more e = refl

pub one_of_more : (mark : ℕ) (pieces : List (List ℕ)) (piece : List ℕ) (rest : Option (Bor (List ℕ))) → first_piece pieces ≡ Some (piece, pieces_behind mark rest) → is_some rest ≡ true → one_of pieces ≡ None
one_of_more mark pieces piece None e some = cc
one_of_more mark pieces piece (Some rest) e some =
    let h = has_piece mark rest.now in
    one_of_several pieces piece h.piece h.pieces (e ∙ ap (λ (l : List (List ℕ)). Some (piece, l)) h.are)

-- a target with a colon is no register
pub target_more : (pieces : List (List ℕ)) (word : List ℕ) (rest : Option (Bor (List ℕ))) → pieces ≡ word ∷ pieces_behind 58 rest → is_some rest ≡ true → target_by_parts pieces ≡ place_by_parts word (pieces_behind 58 rest)
unfolding target_by_parts
target_more pieces word None e some = cc
target_more pieces word (Some rest) e some =
    let h = has_piece 58 rest.now in
    ap (λ (l : List (List ℕ)). target_by_parts l) (e ∙ ap (λ (l : List (List ℕ)). word ∷ l) h.are) ∙ ap (λ (l : List (List ℕ)). place_by_parts word l) (sym h.are)
