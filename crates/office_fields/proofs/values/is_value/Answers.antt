use Rattle.office_fields.proofs.OfKind.{of_kind}
use Rattle.office_fields.proofs.values.is_value.Goals as goal

pub returns-in-NetName : goal.returns-in-NetName
returns-in-NetName c = of_kind c.gives.result _ _ c.args.bytes.now c.in-NetName.is c.gives.ensures

pub returns-in-Team : goal.returns-in-Team
returns-in-Team c = of_kind c.gives-in-Team.result _ _ c.args.bytes.now c.in-Team.is c.gives-in-Team.ensures

pub returns-in-Name : goal.returns-in-Name
returns-in-Name c = of_kind c.gives-in-Name.result _ _ c.args.bytes.now c.in-Name.is c.gives-in-Name.ensures

pub returns-in-Text : goal.returns-in-Text
returns-in-Text c = of_kind c.gives-in-Text.result _ _ c.args.bytes.now c.in-Text.is c.gives-in-Text.ensures

pub returns-in-Path : goal.returns-in-Path
returns-in-Path c = of_kind c.gives-in-Path.result _ _ c.args.bytes.now c.in-Path.is c.gives-in-Path.ensures

pub returns-in-NetKind : goal.returns-in-NetKind
returns-in-NetKind c = of_kind c.gives-in-NetKind.result _ _ c.args.bytes.now c.in-NetKind.is c.gives-in-NetKind.ensures

pub returns-in-IdentForm : goal.returns-in-IdentForm
returns-in-IdentForm c = of_kind c.gives-in-IdentForm.result _ _ c.args.bytes.now c.in-IdentForm.is
    c.gives-in-IdentForm.ensures

pub returns-in-BlockForm : goal.returns-in-BlockForm
returns-in-BlockForm c = of_kind c.gives-in-BlockForm.result _ _ c.args.bytes.now c.in-BlockForm.is
    c.gives-in-BlockForm.ensures

pub returns-in-Addressing : goal.returns-in-Addressing
returns-in-Addressing c = of_kind c.gives-in-Addressing.result _ _ c.args.bytes.now c.in-Addressing.is
    c.gives-in-Addressing.ensures

pub returns-in-ByteOrder : goal.returns-in-ByteOrder
returns-in-ByteOrder c = of_kind c.gives-in-ByteOrder.result _ _ c.args.bytes.now c.in-ByteOrder.is
    c.gives-in-ByteOrder.ensures

pub returns-in-Truth : goal.returns-in-Truth
returns-in-Truth c = of_kind c.gives-in-Truth.result _ _ c.args.bytes.now c.in-Truth.is c.gives-in-Truth.ensures

pub returns-in-Mark : goal.returns-in-Mark
returns-in-Mark c = of_kind c.gives-in-Mark.result _ _ c.args.bytes.now c.in-Mark.is c.gives-in-Mark.ensures

pub returns-in-Number : goal.returns-in-Number
returns-in-Number c = of_kind c.gives-in-Number.result _ _ c.args.bytes.now c.in-Number.is c.gives-in-Number.ensures

pub returns-in-Reviews : goal.returns-in-Reviews
returns-in-Reviews c = of_kind c.gives-in-Reviews.result _ _ c.args.bytes.now c.in-Reviews.is c.gives-in-Reviews.ensures

pub returns-in-Length : goal.returns-in-Length
returns-in-Length c = of_kind c.gives-in-Length.result _ _ c.args.bytes.now c.in-Length.is c.gives-in-Length.ensures

pub returns-in-Priority : goal.returns-in-Priority
returns-in-Priority c = of_kind c.gives-in-Priority.result _ _ c.args.bytes.now c.in-Priority.is
    c.gives-in-Priority.ensures

pub returns-in-Address : goal.returns-in-Address
returns-in-Address c = of_kind c.gives-in-Address.result _ _ c.args.bytes.now c.in-Address.is c.gives-in-Address.ensures

pub returns-in-Size : goal.returns-in-Size
returns-in-Size c = of_kind c.gives-in-Size.result _ _ c.args.bytes.now c.in-Size.is c.gives-in-Size.ensures

pub returns-in-Start : goal.returns-in-Start
returns-in-Start c = of_kind c.gives-in-Start.result _ _ c.args.bytes.now c.in-Start.is c.gives-in-Start.ensures

pub returns-in-Decimal : goal.returns-in-Decimal
returns-in-Decimal c = of_kind c.gives-in-Decimal.result _ _ c.args.bytes.now c.in-Decimal.is c.gives-in-Decimal.ensures

pub returns-in-ValueText : goal.returns-in-ValueText
returns-in-ValueText c = of_kind c.gives-in-ValueText.result _ _ c.args.bytes.now c.in-ValueText.is
    c.gives-in-ValueText.ensures
