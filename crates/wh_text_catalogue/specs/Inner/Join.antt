-- The pairs of columns that are equal in a joined row: the key `join`: what only proofs and private contracts use.
use Rattle.wh_text_catalogue.specs.declared.definitions.join.Link.{Link}
use Rattle.wh_text_catalogue.specs.Join.{WrittenLink}

-- the link that lent parts make
abbrev pub seen_link : Link → WrittenLink
seen_link link = record { left = link.left.now; right = link.right.now }
