use Rattle.std.proofs.Common.{◌≡◌, ◌+◌, ◌*◌, max, length, map, drop, [], Some}
use Rattle.c_typing.specs.Calling.{no_arguments}
use Rattle.c_judge.specs.Gathered.{nothing}
use Rattle.c_judge.specs.Structures.{no_members}
use Rattle.c_judge.specs.Expressions.{with_operators, pass_all, with_links, with_commas}
use Rattle.c_judge.specs.Judging as judging
use Rattle.c_judge.specs.Judging.{specifier, declarator, suffix, parameter, members, expression}
use Rattle.c_judge.specs.Parts.{link_of, operator_of, enumerator_of, sizes_of}
use Rattle.c_judge.proofs.checker.Checker.+judge.Given as goal

abbrev pub invariant-abstract_shapes-loop-size : goal.invariant-abstract_shapes-loop-size
invariant-abstract_shapes-loop-size l =
    (l.size-items ≡ l.of.sizes)
    × (judging.sizes_shape (sizes_of (drop l.size-index l.size-items)) l.shapes l.self ≡ judging.sizes_shape (sizes_of l.of.sizes) [] l.fn.self)

abbrev pub invariant-add_members-loop-declaration : goal.invariant-add_members-loop-declaration
invariant-add_members-loop-declaration l =
    judging.add_members (map members (drop l.declaration-index l.declarations)) l.made l.self
    ≡ judging.add_members (map members l.declarations) no_members l.fn.self

abbrev pub invariant-arguments-loop-argument : goal.invariant-arguments-loop-argument
invariant-arguments-loop-argument l =
    (l.number ≡ l.argument-index)
    × (pass_all (map expression (drop l.argument-index l.arguments)) l.mode l.callee l.number l.passed l.self
    ≡ pass_all (map expression l.arguments) l.mode l.callee 0 (Some no_arguments) l.fn.self)

abbrev pub invariant-commas-loop-other : goal.invariant-commas-loop-other
invariant-commas-loop-other l =
    (l.left + l.other-index ≡ length l.others)
    × (with_commas (map expression (drop l.other-index l.others)) l.mode l.value l.self
    ≡ with_commas (map expression l.others) l.mode l.fn.first l.fn.self)

abbrev pub invariant-declare_members-loop-one : goal.invariant-declare_members-loop-one
invariant-declare_members-loop-one l =
    judging.declare_members (map declarator (drop l.one-index l.declarators)) l.base l.members l.self
    ≡ judging.declare_members (map declarator l.declarators) l.base l.fn.made l.fn.self

abbrev pub invariant-enumerate-loop-enumerator : goal.invariant-enumerate-loop-enumerator
invariant-enumerate-loop-enumerator l =
    judging.enumerate (map enumerator_of (drop l.enumerator-index l.enumerators)) l.next l.self
    ≡ judging.enumerate (map enumerator_of l.enumerators) (Some 0) l.fn.self

abbrev pub invariant-links-loop-link : goal.invariant-links-loop-link
invariant-links-loop-link l =
    with_links (map link_of (drop l.link-index l.links)) l.mode l.value l.self ≡ with_links (map link_of l.links) l.mode l.fn.first l.fn.self

abbrev pub invariant-list_parameters-loop-param : goal.invariant-list_parameters-loop-param
invariant-list_parameters-loop-param l =
    (l.is_alone ≡ judging.is_single l.params)
    × (judging.list_parameters (map parameter (drop l.param-index l.params)) l.is_alone l.types l.self
    ≡ judging.list_parameters (map parameter l.params) (judging.is_single l.params) (Some []) l.fn.self)

abbrev pub invariant-operators-loop-operator : goal.invariant-operators-loop-operator
invariant-operators-loop-operator l =
    with_operators (map operator_of (drop l.operator-index l.operators)) l.mode l.value l.self
    ≡ with_operators (map operator_of l.operators) l.mode l.fn.first l.fn.self

abbrev pub invariant-specify-loop-one : goal.invariant-specify-loop-one
invariant-specify-loop-one l =
    judging.specify_all (map specifier (drop l.one-index l.specifiers)) l.at l.gathered l.self
    ≡ judging.specify_all (map specifier l.specifiers) l.at nothing l.fn.self

abbrev pub invariant-suffixes-loop-one : goal.invariant-suffixes-loop-one
invariant-suffixes-loop-one l =
    judging.suffix_shapes (map suffix (drop l.one-index l.suffixes)) l.keep l.shapes l.self
    ≡ judging.suffix_shapes (map suffix l.suffixes) l.fn.keep l.fn.made l.fn.self

abbrev pub decreases-abstract_shapes : goal.decreases-abstract_shapes
decreases-abstract_shapes l = 4 * goal.size-abstract_shapes l + 2

abbrev pub decreases-add_members : goal.decreases-add_members
decreases-add_members l = 4 * goal.size-add_members l + 1

abbrev pub decreases-arguments : goal.decreases-arguments
decreases-arguments l = 4 * goal.size-arguments l + 1

abbrev pub decreases-assign_value : goal.decreases-assign_value
decreases-assign_value l = 4 * goal.size-assign_value l + 1

abbrev pub decreases-branches : goal.decreases-branches
decreases-branches l = 4 * max (goal.size-branches l) (goal.size-branches (record l { then = l.otherwise })) + 1

abbrev pub decreases-cast_operand : goal.decreases-cast_operand
decreases-cast_operand l = 4 * goal.size-cast_operand l + 1

abbrev pub decreases-commas : goal.decreases-commas
decreases-commas l = 4 * goal.size-commas l + 1

abbrev pub decreases-declarator : goal.decreases-declarator
decreases-declarator l = 4 * goal.size-declarator l + 0

abbrev pub decreases-declare_member : goal.decreases-declare_member
decreases-declare_member l = 4 * goal.size-declare_member l + 1

abbrev pub decreases-declare_members : goal.decreases-declare_members
decreases-declare_members l = 4 * goal.size-declare_members l + 2

abbrev pub decreases-enum_specified : goal.decreases-enum_specified
decreases-enum_specified l = 4 * goal.size-enum_specified l + 3

abbrev pub decreases-enumerate : goal.decreases-enumerate
decreases-enumerate l = 4 * goal.size-enumerate l + 2

abbrev pub decreases-expr : goal.decreases-expr
decreases-expr l = 4 * goal.size-expr l + 0

abbrev pub decreases-links : goal.decreases-links
decreases-links l = 4 * goal.size-links l + 1

abbrev pub decreases-list_parameters : goal.decreases-list_parameters
decreases-list_parameters l = 4 * goal.size-list_parameters l + 1

abbrev pub decreases-member_declaration : goal.decreases-member_declaration
decreases-member_declaration l = 4 * goal.size-member_declaration l + 0

abbrev pub decreases-operator : goal.decreases-operator
decreases-operator l = 4 * goal.size-operator l + 2

abbrev pub decreases-operators : goal.decreases-operators
decreases-operators l = 4 * goal.size-operators l + 3

abbrev pub decreases-own_value : goal.decreases-own_value
decreases-own_value l = 4 * goal.size-own_value l + 1

abbrev pub decreases-param : goal.decreases-param
decreases-param l = 4 * goal.size-param l + 0

abbrev pub decreases-param_behind : goal.decreases-param_behind
decreases-param_behind l = 4 * goal.size-param_behind l + 1

abbrev pub decreases-size_shape : goal.decreases-size_shape
decreases-size_shape l = 4 * goal.size-size_shape l + 1

abbrev pub decreases-specifier : goal.decreases-specifier
decreases-specifier l = 4 * goal.size-specifier l + 0

abbrev pub decreases-specify : goal.decreases-specify
decreases-specify l = 4 * goal.size-specify l + 1

abbrev pub decreases-struct_specified : goal.decreases-struct_specified
decreases-struct_specified l = 4 * goal.size-struct_specified l + 2

abbrev pub decreases-suffix : goal.decreases-suffix
decreases-suffix l = 4 * goal.size-suffix l + 0

abbrev pub decreases-suffixes : goal.decreases-suffixes
decreases-suffixes l = 4 * goal.size-suffixes l + 1

abbrev pub decreases-type_name : goal.decreases-type_name
decreases-type_name l = 4 * goal.size-type_name l + 0

abbrev pub decreases-unnamed_behind : goal.decreases-unnamed_behind
decreases-unnamed_behind l = 4 * goal.size-unnamed_behind l + 3
