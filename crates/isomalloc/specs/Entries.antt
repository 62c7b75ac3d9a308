-- What private functions read from and write to the header and the nodes.
use Rattle.std.specs.Prelude.{ℕ, ◌≡◌, ◌+◌, ◌-◌, ◌<◌, ◌==◌, ◌⊎◌, if◌then◌else◌, nat_lt, List}
use Rattle.rank_range.specs.Nodes.{Node, node_at, node_count, no_node, first_node, first_unused, live_blocks, hole_count}
use Rattle.isomalloc.specs.declared.nodes.Entry.{Entry}
use Rattle.isomalloc.specs.declared.nodes.Header.{Header}

-- The number is that of a node, or stands where there is none.
abbrev pub MayBeNode : ℕ → Type 0
MayBeNode number = (number < node_count) ⊎ (number ≡ no_node)

-- the header's numbers
abbrev pub header_of : List ℕ → Header
header_of bytes =
    record {
      first = first_node bytes;
      unused = first_unused bytes;
      blocks = live_blocks bytes;
      holes = hole_count bytes;
    }

-- the node of these fields
abbrev pub node_of : Entry → ℕ → Node
node_of entry rest =
    record {
      start = entry.start;
      units = entry.units;
      previous = entry.previous;
      next = entry.next;
      kind = entry.kind;
      rest = rest;
    }

-- the fields of a node
abbrev pub entry_of : Node → Entry
entry_of node =
    record { start = node.start; units = node.units; previous = node.previous; next = node.next; kind = node.kind }

-- Where no block was taken yet, each node but the first is unused, and the next one stands behind it.
abbrev pub fresh_entry : ℕ → Entry
fresh_entry number =
    record {
      start = 0;
      units = 0;
      previous = 0;
      next = if nat_lt (number + 1) node_count then number + 1 else no_node;
      kind = 0;
    }

-- the nodes with one of them changed
unfoldable pub with_node : ℕ → Node → (ℕ → Node) → ℕ → Node
with_node number node nodes k = if k == number then node else nodes k

abbrev pub with_previous : ℕ → Node → Node
with_previous previous node =
    record {
      start = node.start;
      units = node.units;
      previous = previous;
      next = node.next;
      kind = node.kind;
      rest = node.rest;
    }

abbrev pub with_kind : ℕ → Node → Node
with_kind kind node =
    record {
      start = node.start;
      units = node.units;
      previous = node.previous;
      next = node.next;
      kind = kind;
      rest = node.rest;
    }

-- the node `number` names `previous` as the node before it
unfoldable pub repointed : ℕ → ℕ → (ℕ → Node) → ℕ → Node
repointed number previous nodes = with_node number (with_previous previous (nodes number)) nodes

-- the nodes after the first units of a hole became a block and the unused node `spare` a hole of the rest
unfoldable pub split_nodes : ℕ → ℕ → ℕ → (ℕ → Node) → ℕ → Node
split_nodes number units spare nodes =
    repointed (nodes number).next spare (
    with_node number (
    record {
      start = (nodes number).start;
      units = units;
      previous = (nodes number).previous;
      next = spare;
      kind = 2;
      rest = (nodes number).rest;
    }
    ) (
    with_node spare (
    record {
      start = (nodes number).start + units;
      units = (nodes number).units - units;
      previous = number;
      next = (nodes number).next;
      kind = 1;
      rest = (nodes spare).rest;
    }
    ) nodes
    )
    )

-- the nodes after the hole `behind` was added to the hole `number` before it, and its node became unused
unfoldable pub joined_nodes : ℕ → ℕ → ℕ → (ℕ → Node) → ℕ → Node
joined_nodes number behind unused nodes =
    repointed (nodes behind).next number (
    with_node behind (
    record {
      start = 0;
      units = 0;
      previous = 0;
      next = unused;
      kind = 0;
      rest = (nodes behind).rest;
    }
    ) (
    with_node number (
    record {
      start = (nodes number).start;
      units = (nodes number).units + (nodes behind).units;
      previous = (nodes number).previous;
      next = (nodes behind).next;
      kind = (nodes number).kind;
      rest = (nodes number).rest;
    }
    ) nodes
    )
    )

-- The nodes that the bytes spell are these.
pub record NodesAre (bytes : List ℕ) (nodes : ℕ → Node) : Type 0 where
  pub at : (k : ℕ) → k < node_count → node_at bytes k ≡ nodes k
