-- One link after another.
use Rattle.std.proofs.Common.{◌≡◌, ℕ, ◌+◌, ◌<◌, List, [], ◌∷◌, ◌++◌, length, get_or, drop, map, Some, None, Ok, refl}
use Rattle.std.proofs.lemmas.List.{drop_more}
use Rattle.wh_text.specs.Columns.{NamedKind}
use Rattle.wh_text_catalogue.specs.Header.{HeaderOf}
use Rattle.wh_text_catalogue.specs.Join.{joined, joined_link, unknown_in_link, unknown_in_links}
use Rattle.wh_text_catalogue.specs.Inner.Join.{seen_link}
use Rattle.wh_text_catalogue.specs.declared.definitions.join.Link.{Link}

-- a link whose references are known is passed by
pub unknown_in_links-known : (columns : List NamedKind) (links : List Link) (i : ℕ) (d : Link) → i < length links → None ≡ unknown_in_link columns (get_or links i d).left.now (get_or links i d).right.now
    → unknown_in_links columns (map seen_link (drop i links)) ≡ unknown_in_links columns (map seen_link (drop (i + 1) links))
unknown_in_links-known columns links i d within known = rw (drop_more links i d within, ← known) refl

-- the first unknown reference
pub unknown_in_links-found : (columns : List NamedKind) (links : List Link) (i : ℕ) (d : Link) (text : List ℕ) → i < length links → Some text ≡ unknown_in_link columns (get_or links i d).left.now (get_or links i d).right.now
    → Some text ≡ unknown_in_links columns (map seen_link (drop i links))
unknown_in_links-found columns links i d text within found = rw (drop_more links i d within, ← found) refl

-- one more link's places
pub joined-more : (header : HeaderOf) (found : List (ℕ × ℕ)) (links : List Link) (i : ℕ) (d : Link) (own : ℕ × ℕ) → i < length links → joined_link header (get_or links i d).left.now (get_or links i d).right.now ≡ Ok own
    → joined header found (map seen_link (drop i links)) ≡ joined header (found ++ own ∷ []) (map seen_link (drop (i + 1) links))
joined-more header found links i d own within same = rw (drop_more links i d within, same) refl
